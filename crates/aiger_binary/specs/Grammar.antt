-- What spells the body of a binary file: a relation between its whole text and what is given, apart from the reader. (AIGER, the binary format.)
use Rattle.std.specs.Prelude.{◌≡◌, ℕ, ◌+◌, ◌*◌, ◌/◌, ◌<◌, ◌≤◌, List, [], ◌∷◌, ◌++◌, length, drop, All, Some, Ok, slice_index}
use Rattle.std.specs.List.{range_with_len}
use Rattle.circ_model.specs.declared.netlist.Latch.{Latch}
use Rattle.circ_model.specs.declared.netlist.Gate.{Gate}
use Rattle.circ_model.specs.Netlist.{Netlist}
use Rattle.aig_graph.specs.Given.{reset_of}
use Rattle.aiger_codec.specs.declared.header.Header.{Header}
use Rattle.aiger_codec.specs.declared.section.Section.TheVariants.{Outputs}
use Rattle.aiger_codec.specs.Deltas.{IsSpelled}
use Rattle.aiger_codec.specs.Grammar.{SpellsLine}
use Rattle.aiger_codec.specs.SectionGrammar.{SpellsSection}
use Rattle.aiger_binary.specs.Binary.{binary_at}

-- items one after the other, each of the next variable
abbrev pub SpellsEach : {X : Type 0} → (ℕ → List ℕ → X → Type 0) → ℕ → List ℕ → List X → Type 0
SpellsEach P v text [] = text ≡ []
SpellsEach P v text (x ∷ xs) = (t : List ℕ) × (u : List ℕ) × P v t x × SpellsEach P (v + 1) u xs × (text ≡ t ++ u)

-- the latch of a variable: a line of its next literal and perhaps its reset; a reset that is left out counts as 0
pub record SpellsLatch (v : ℕ) (text : List ℕ) (l : Latch) : Type 0 where
  pub numbers : List ℕ
  pub line : SpellsLine text numbers
  pub some : 1 ≤ length numbers
  pub few : length numbers ≤ 2
  pub var : l.var ≡ v
  pub next : slice_index numbers 0 ≡ l.next
  pub reset : reset_of l.var (slice_index numbers 1) ≡ Some l.reset

-- the gate of a variable: how far its left literal stands below its own, and its right literal below the left one
pub record SpellsGate (v : ℕ) (text : List ℕ) (q : Gate) : Type 0 where
  pub first : List ℕ
  pub second : List ℕ
  pub is : text ≡ first ++ second
  pub down : ℕ
  pub further : ℕ
  pub first_number : IsSpelled first down
  pub second_number : IsSpelled second further
  pub first_short : length first ≤ 5
  pub second_short : length second ≤ 5
  pub var : q.var ≡ v
  pub below : 0 < down
  pub left : q.left + down ≡ 2 * v
  pub right : q.right + further ≡ q.left

-- the sections in their order, as many items in each as the header says
pub record SpellsBinary (h : Header) (text : List ℕ) (given : Netlist) : Type 0 where
  pub latches : List ℕ
  pub outputs : List ℕ
  pub gates : List ℕ
  pub is : text ≡ latches ++ (outputs ++ gates)
  pub inputs : given.inputs ≡ range_with_len 1 h.i
  pub latch_lines : SpellsEach SpellsLatch (h.i + 1) latches given.latches
  pub output_lines : SpellsSection Outputs outputs given.outputs
  pub gate_numbers : SpellsEach SpellsGate (h.i + 1 + h.l) gates given.gates
  pub latch_count : length given.latches ≡ h.l
  pub output_count : length given.outputs ≡ h.o
  pub gate_count : length given.gates ≡ h.a
  pub max_var : given.max_var ≡ h.m
  pub next_literals : All (λ (l : Latch). l.next / 2 ≤ given.max_var) given.latches
  pub output_literals : All (λ lit. lit / 2 ≤ given.max_var) given.outputs

-- what was read of the bytes after the header, up to this place, is spelled by them
abbrev pub IsBinary : Header → List ℕ → Netlist → ℕ → Type 0
IsBinary h bytes given end = (text : List ℕ) × SpellsBinary h text given × (drop h.end bytes ≡ text ++ drop end bytes) × (end ≡ h.end + length text)

-- what is spelled by the bytes after the header is read, whatever follows, where the header's counts are within its greatest variable and that within the limit
abbrev pub SpelledIsRead : Type 0
SpelledIsRead = (h : Header) (bytes text rest : List ℕ) (given : Netlist) → h.m ≤ 1000000 → h.i + h.l + h.a ≤ h.m → SpellsBinary h text given → drop h.end bytes ≡ text ++ rest
    → binary_at h bytes ≡ Ok (given, h.end + length text)
