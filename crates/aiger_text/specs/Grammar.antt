-- What spells the body of a text file: a relation between its whole text and what is given, apart from the reader. (AIGER 1.9, the ASCII format.)
use Rattle.std.specs.Prelude.{◌≡◌, ℕ, ◌+◌, List, ◌++◌, length, drop, Ok}
use Rattle.circ_model.specs.Netlist.{Netlist}
use Rattle.aiger_codec.specs.declared.header.Header.{Header}
use Rattle.aiger_codec.specs.declared.section.Section.TheVariants.{Inputs, Latches, Outputs, Gates}
use Rattle.aiger_codec.specs.SectionGrammar.{MayBeGiven, SpellsSection}
use Rattle.aiger_codec.specs.Sections.{body_at}

-- the sections in their order, as many lines in each as the header says
pub record SpellsBody (h : Header) (text : List ℕ) (given : Netlist) : Type 0 where
  pub inputs : List ℕ
  pub latches : List ℕ
  pub outputs : List ℕ
  pub gates : List ℕ
  pub is : text ≡ inputs ++ (latches ++ (outputs ++ gates))
  pub input_lines : SpellsSection Inputs inputs given.inputs
  pub latch_lines : SpellsSection Latches latches given.latches
  pub output_lines : SpellsSection Outputs outputs given.outputs
  pub gate_lines : SpellsSection Gates gates given.gates
  pub input_count : length given.inputs ≡ h.i
  pub latch_count : length given.latches ≡ h.l
  pub output_count : length given.outputs ≡ h.o
  pub gate_count : length given.gates ≡ h.a
  pub max_var : given.max_var ≡ h.m
  pub may : MayBeGiven given

-- what was read of the bytes after the header, up to this place, is spelled by them
abbrev pub IsSpelled : Header → List ℕ → Netlist → ℕ → Type 0
IsSpelled h bytes given end = (text : List ℕ) × SpellsBody h text given × (drop h.end bytes ≡ text ++ drop end bytes) × (end ≡ h.end + length text)

-- what is spelled by the bytes after the header is read, whatever follows
abbrev pub SpelledIsRead : Type 0
SpelledIsRead = (h : Header) (bytes text rest : List ℕ) (given : Netlist) → SpellsBody h text given → drop h.end bytes ≡ text ++ rest → body_at h bytes ≡ Ok (given, h.end + length text)
