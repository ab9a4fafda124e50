-- What finishing gives: the netlist, or what is wrong with the whole.
use Rattle.std.specs.Prelude.{◌≡◌, ℕ, ◌/◌, ◌≤◌, ◌==◌, ◌&&◌, ltb, if◌then◌else◌, List, [], ◌∷◌, ◌++◌, map, Result, Ok, Err, slice_index}
use Rattle.std.specs.List.{Contains}
use Rattle.std.specs.List.Sorted.{IsPermutation}
use Rattle.circ_model.specs.declared.netlist.Latch.{Latch}
use Rattle.circ_model.specs.declared.netlist.Gate.{Gate}
use Rattle.circ_model.specs.Netlist.{Netlist, IsSound, IsLevelling, AllDefined, IsDefined}
use Rattle.aig_graph.specs.declared.fault.BuildFault.{BuildFault}
use Rattle.aig_graph.specs.declared.fault.BuildFault.TheVariants as faults

abbrev pub right_literals : List Gate → List ℕ
right_literals [] = []
right_literals (g ∷ gs) = g.left ∷ g.right ∷ right_literals gs

-- the literals that are used: of latches, outputs and gates
abbrev pub used : Netlist → List ℕ
used given = map (λ (l : Latch). l.next) given.latches ++ given.outputs ++ right_literals given.gates

-- some literal of this variable is used, and none of the used ones' variables without a definition is lower
pub record IsLeastUndefined (given : Netlist) (v : ℕ) : Type 0 where
  pub is : (lit : ℕ) × Contains (used given) lit × (IsDefined given lit → ⊥) × (lit / 2 ≡ v)
  pub least : (lit : ℕ) → Contains (used given) lit → (IsDefined given lit → ⊥) → v ≤ lit / 2

-- the gates have no levels: some wait for each other
abbrev pub IsCircular : Netlist → Type 0
IsCircular given = (level : ℕ → ℕ) → IsLevelling given level → ⊥

-- the netlist is sound and has exactly what was given, its gates in whatever order
pub record IsFinished (given net : Netlist) : Type 0 where
  pub max_var : net.max_var ≡ given.max_var
  pub inputs : net.inputs ≡ given.inputs
  pub latches : net.latches ≡ given.latches
  pub outputs : net.outputs ≡ given.outputs
  pub gates : IsPermutation given.gates net.gates
  pub sound : IsSound net

abbrev pub Finishes : Result Netlist BuildFault → Netlist → Type 0
Finishes (Ok net) given = IsFinished given net
Finishes (Err (faults.Undefined v)) given = IsLeastUndefined given v
Finishes (Err faults.Cyclic) given = AllDefined given × IsCircular given
Finishes (Err faults.Memory) given = Unit {0}
Finishes (Err faults.Literal) given = ⊥
Finishes (Err faults.Redefined) given = ⊥
Finishes (Err faults.Reset) given = ⊥

-- ---- how the least is found

abbrev pub lower : List ℕ → ℕ → ℕ → ℕ
lower defs least lit = if ltb 0 (lit / 2) && (slice_index defs (lit / 2) == 0) && ltb (lit / 2) least then lit / 2 else least

abbrev pub lowest : List ℕ → ℕ → List ℕ → ℕ
lowest defs least [] = least
lowest defs least (lit ∷ lits) = lowest defs (lower defs least lit) lits
