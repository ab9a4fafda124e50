-- The laws of maps, as statements.
use Rattle.std.specs.Prelude.{◌≡◌, ◌<◌, ◌≤◌, ℕ, List, length, Bool}
use Rattle.circ_model.specs.Meaning.{Path}
use Rattle.class_partition.specs.Classes.{Classes, Passes}
use Rattle.and_graph.specs.declared.node.Node.{Node}
use Rattle.and_graph.specs.Graphs.{IsGraph, Obeys, node_at}
use Rattle.frame_graph.specs.Inductions.{BasePasses, Induction, StepPasses}
use Rattle.frame_graph.specs.Leaves.{AreLeaves, Leaves, Reads}
use Rattle.frame_graph.specs.Maps.{IsResetMap, IsStepMap, Mapping}
use Rattle.frame_graph.specs.Owed.{IsOwed}

-- some valuation has the bits of a path at the leaves
abbrev pub EachPathIsRead : Type 0
EachPathIsRead = (nodes : List Node) (l : Leaves) (path : Path) → IsGraph nodes → AreLeaves nodes l → (v : ℕ → Bool) × Obeys nodes v × Reads l path v

-- both halves of what has to be proved of a place
abbrev pub BothHalves : Type 0
BothHalves = (i : Induction) (p : ℕ) → BasePasses i p → StepPasses i p → Passes i.pair i.k i.classes p

-- another graph that takes in a merge: the same operands, and the same valuations
pub record IsMerged (nodes after : List Node) : Type 0 where
  pub size : length after ≡ length nodes
  pub operands : (n : ℕ) → ((node_at after n).left ≡ (node_at nodes n).left) × ((node_at after n).right ≡ (node_at nodes n).right)
  pub valuations : (v : ℕ → Bool) → Obeys after v → Obeys nodes v

-- a later graph, grown or merged: what the leaves, the literals and the valuations of a map need of it
pub record IsLater (nodes after : List Node) : Type 0 where
  pub size : length nodes ≤ length after
  pub operands : (n : ℕ) → n < length nodes → ((node_at after n).left ≡ (node_at nodes n).left) × ((node_at after n).right ≡ (node_at nodes n).right)
  pub valuations : (v : ℕ → Bool) → Obeys after v → Obeys nodes v

-- a map stands for ever: while the graph grows, and through merges
abbrev pub MapsStay : (List Node → List Node → Type 0) → Type 0
MapsStay Goes = (nodes after : List Node) (m : Mapping) → Goes nodes after
    → (IsResetMap nodes m → IsResetMap after m) × ((classes : Classes) → IsStepMap nodes m classes → IsStepMap after m classes)

-- and so does what is owed
abbrev pub OwedStays : (List Node → List Node → Type 0) → Type 0
OwedStays Goes = (nodes after : List Node) (m : Mapping) (classes : Classes) (p : ℕ × ℕ) → Goes nodes after → IsOwed nodes m classes p → IsOwed after m classes p

-- and so do the leaves
abbrev pub LeavesStay : (List Node → List Node → Type 0) → Type 0
LeavesStay Goes = (nodes after : List Node) (l : Leaves) → Goes nodes after → AreLeaves nodes l → AreLeaves after l
