use Rattle.std.proofs.Common.{◌≡◌, ◌<◌, ◌+◌, ℕ, length}
use Rattle.and_graph.specs.Graphs.{GrowsTo, IsLeaf, node_at}
use Rattle.frame_graph.proofs.map.add_leaves.Given as goal

abbrev pub invariant-loop : goal.invariant-loop
invariant-loop l = record {
  size : length l.graph ≡ length l.fn.graph + l.counter;
  on : GrowsTo l.fn.graph l.graph;
  leaves : (j : ℕ) → length l.fn.graph + j < length l.graph → IsLeaf (length l.fn.graph + j) (node_at l.graph (length l.fn.graph + j));
}
