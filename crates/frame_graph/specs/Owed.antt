-- What a place of a frame in which the classes hold owes: its literal is what stands there. A question about the last frame may assume
-- it, and is then exact.
use Rattle.std.specs.Prelude.{◌≡◌, ℕ, List, Bool}
use Rattle.circ_model.specs.Meaning.{Path, literal_value}
use Rattle.class_partition.specs.Classes.{Classes}
use Rattle.and_graph.specs.declared.node.Node.{Node}
use Rattle.and_graph.specs.Graphs.{Obeys}
use Rattle.frame_graph.specs.Inductions.{IsStepPath}
use Rattle.frame_graph.specs.Leaves.{Reads}
use Rattle.frame_graph.specs.Maps.{Mapping, induction_of}

-- two literals are equal on each path of the step
pub record IsOwed (nodes : List Node) (m : Mapping) (classes : Classes) (p : ℕ × ℕ) : Type 0 where
  pub equal : (path : Path) (v : ℕ → Bool) → IsStepPath (induction_of m classes) path → Obeys nodes v → Reads m.leaves path v → literal_value v p.0 ≡ literal_value v p.1
