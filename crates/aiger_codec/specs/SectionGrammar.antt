-- What spells a section of a text body: a line for each item, apart from the reader. (AIGER 1.9, the ASCII format.)
use Rattle.std.specs.Prelude.{◌≡◌, ◌≢◌, ℕ, ◌*◌, ◌/◌, ◌≤◌, List, [], ◌∷◌, ◌++◌, length, All, Some, slice_index}
use Rattle.std.specs.List.{AllPairs, AllZip}
use Rattle.circ_model.specs.declared.netlist.Latch.{Latch}
use Rattle.circ_model.specs.declared.netlist.Gate.{Gate}
use Rattle.circ_model.specs.Netlist.{Netlist, variables}
use Rattle.aig_graph.specs.Given.{reset_of}
use Rattle.aiger_codec.specs.declared.section.Section.{Section}
use Rattle.aiger_codec.specs.declared.section.Section.TheVariants.{Inputs, Latches, Outputs, Gates}
use Rattle.aiger_codec.specs.Grammar.{SpellsLine}
use Rattle.aiger_codec.specs.Sections.{least, most}

-- lines of so many numbers, one after the other
abbrev pub SpellsLines : ℕ → ℕ → List ℕ → List (List ℕ) → Type 0
SpellsLines least most text [] = text ≡ []
SpellsLines least most text (ns ∷ others) =
    (t : List ℕ) × (u : List ℕ) × SpellsLine t ns × (least ≤ length ns) × (length ns ≤ most) × SpellsLines least most u others × (text ≡ t ++ u)

-- what a line of the section defines
abbrev pub Item : Section → Type 0
Item Inputs = ℕ
Item Latches = Latch
Item Outputs = ℕ
Item Gates = Gate

-- the numbers of an item's line; a number that is left out counts as 0
abbrev pub IsLine : (s : Section) → List ℕ → Item s → Type 0
IsLine Inputs ns v = slice_index ns 0 ≡ 2 * v
IsLine Latches ns l = (slice_index ns 0 ≡ 2 * l.var) × (slice_index ns 1 ≡ l.next) × (reset_of l.var (slice_index ns 2) ≡ Some l.reset)
IsLine Outputs ns lit = slice_index ns 0 ≡ lit
IsLine Gates ns q = (slice_index ns 0 ≡ 2 * q.var) × (slice_index ns 1 ≡ q.left) × (slice_index ns 2 ≡ q.right)

-- a line for each item
pub record SpellsSection (s : Section) (text : List ℕ) (items : List (Item s)) : Type 0 where
  pub lines : List (List ℕ)
  pub spelled : SpellsLines (least s) (most s) text lines
  pub each : AllZip (IsLine s) lines items

-- no variable is defined twice, and no variable or literal is past the greatest variable
pub record MayBeGiven (net : Netlist) : Type 0 where
  pub once : AllPairs (λ v w. v ≢ w) (variables net)
  pub in_range : All (λ v. v ≤ net.max_var) (variables net)
  pub next_literals : All (λ (l : Latch). l.next / 2 ≤ net.max_var) net.latches
  pub output_literals : All (λ lit. lit / 2 ≤ net.max_var) net.outputs
  pub right_literals : All (λ (q : Gate). (q.left / 2 ≤ net.max_var) × (q.right / 2 ≤ net.max_var)) net.gates
