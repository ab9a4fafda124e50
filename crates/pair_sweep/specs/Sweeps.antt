-- A graph with the frames from reset and, for one version of the classes, those of the step.
use Rattle.std.specs.Prelude.{◌≡◌, ℕ, ◌<◌, ⊤, List, length}
use Rattle.std.specs.List.{All}
use Rattle.circ_model.specs.Meaning.{Pair, places_of}
use Rattle.class_partition.specs.Classes.{Classes}
use Rattle.and_graph.specs.declared.node.Node.{Node}
use Rattle.frame_graph.specs.Inductions.{Induction, StepPasses}
use Rattle.frame_graph.specs.Maps.{Mapping, IsResetMap, IsStepMap}
use Rattle.frame_graph.specs.Owed.{IsOwed}
use Rattle.graph_solver.specs.Known.{IsKept, Known}
use Rattle.pair_sweep.specs.declared.free_bit.Difference.{Difference}
use Rattle.pair_sweep.specs.declared.free_bit.Difference.TheVariants.{Equal, Apart, Unknown}

-- a pair, for induction over k frames
pub record Extent : Type 0 where
  pub pair : Pair
  pub k : ℕ

-- the frames from reset, and leaves for one frame more at least, which the step's frames share
pub record IsMemory (nodes : List Node) (resets steps : Mapping) (k : ℕ) : Type 0 where
  pub reset_map : IsResetMap nodes resets
  pub shared : steps.leaves ≡ resets.leaves
  pub depth : resets.depth ≡ k
  pub room : k < resets.leaves.frames

-- and the step's frames for classes, of which the last may be mapped in part; and what is assumed of them, which holds on each path
pub record IsSweep (nodes : List Node) (resets steps : Mapping) (known : Known) (k : ℕ) (classes : Classes) : Type 0 where
  pub memory : IsMemory nodes resets steps k
  pub step_map : IsStepMap nodes steps classes
  pub owed : All (IsOwed nodes steps classes) known.facts
  pub told : IsKept nodes known
  pub depth : steps.depth ≡ k
  pub places : length classes.least ≡ places_of resets.leaves.pair

-- a pair that is equal where what is assumed holds passes: this is assumed on each path of the step
abbrev pub PassesIfEqual : Induction → ℕ → Difference → Type 0
PassesIfEqual i member Equal = StepPasses i member
PassesIfEqual i member (Apart bits) = ⊤
PassesIfEqual i member Unknown = ⊤
