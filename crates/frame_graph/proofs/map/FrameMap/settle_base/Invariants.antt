use Rattle.std.proofs.Common.{◌≡◌, ◌<◌, ℕ}
use Rattle.frame_graph.specs.Inductions.{HoldsInFrame}
use Rattle.frame_graph.specs.Laws.{IsMerged}
use Rattle.frame_graph.specs.Maps.{IsResetMap, induction_of}
use Rattle.frame_graph.proofs.map.FrameMap.settle_base.Given as goal

abbrev pub invariant-loop-frame : goal.invariant-loop-frame
invariant-loop-frame l = record {
  merged : IsMerged l.fn.graph l.graph;
  map : IsResetMap l.graph l.self;
  most : l.asker.most ≡ l.fn.asker.most;
  holds : (t : ℕ) → t < l.frame → HoldsInFrame (induction_of l.self l.classes) t l.member;
}
