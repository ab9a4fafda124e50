use Rattle.std.proofs.Common.{◌≡◌}
use Rattle.circ_model.specs.Verdict.{AgreeBelow}
use Rattle.frame_graph.specs.Maps.{IsResetMap}
use Rattle.induction_base.proofs.difference.FrameSearch.in_frames.Given as goal

abbrev pub invariant-loop-t : goal.invariant-loop-t
invariant-loop-t l = record {
  pair : l.map.leaves.pair ≡ l.product;
  frames : l.map.leaves.frames ≡ l.k;
  depth : l.map.depth ≡ l.t;
  map : IsResetMap l.self.graph l.map;
  whole : l.self.whole ≡ l.product;
  agree : AgreeBelow l.product l.t;
}
