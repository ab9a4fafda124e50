-- The leaves of a graph that stand for the free bits of a path: one for each latch of its first frame, then one for each input of
-- each frame.
use Rattle.std.specs.Prelude.{◌≡◌, ℕ, ◌+◌, ◌*◌, ◌<◌, ◌≤◌, List, length, Bool}
use Rattle.circ_model.specs.Meaning.{Pair, Path, bit, inputs_at, latches_of}
use Rattle.and_graph.specs.declared.node.Node.{Node}
use Rattle.and_graph.specs.Graphs.{IsLeaf, node_at}

-- leaves for so many frames, from a node on
pub record Leaves : Type 0 where
  pub pair : Pair
  pub frames : ℕ
  pub first : ℕ

-- the node of a latch, by its position in the state, and of an input of a frame
abbrev pub latch_node : Leaves → ℕ → ℕ
latch_node l j = l.first + j

abbrev pub input_node : Leaves → ℕ → ℕ → ℕ
input_node l t i = l.first + (latches_of l.pair + (t * length l.pair.left.inputs + i))

abbrev pub leaf_count : Leaves → ℕ
leaf_count l = latches_of l.pair + l.frames * length l.pair.left.inputs

-- these nodes are leaves of a graph
pub record AreLeaves (nodes : List Node) (l : Leaves) : Type 0 where
  pub some : 0 < l.first
  pub room : l.first + leaf_count l ≤ length nodes
  pub each : (j : ℕ) → j < leaf_count l → IsLeaf (l.first + j) (node_at nodes (l.first + j))

-- they have the bits of a path
pub record Reads (l : Leaves) (path : Path) (v : ℕ → Bool) : Type 0 where
  pub start : (j : ℕ) → j < latches_of l.pair → v (latch_node l j) ≡ bit path.start j
  pub inputs : (t i : ℕ) → t < l.frames → i < length l.pair.left.inputs → v (input_node l t i) ≡ bit (inputs_at path t) i
