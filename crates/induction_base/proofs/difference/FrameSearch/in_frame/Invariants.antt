use Rattle.std.proofs.Common.{◌≡◌, ◌<◌, ℕ}
use Rattle.frame_graph.specs.Maps.{IsResetMap}
use Rattle.induction_base.specs.Search.{AgreesAt}
use Rattle.induction_base.proofs.difference.FrameSearch.in_frame.Given as goal

abbrev pub invariant-loop-j : goal.invariant-loop-j
invariant-loop-j l = record {
  map : IsResetMap l.self.graph l.map;
  whole : l.self.whole ≡ l.product;
  agree : (i : ℕ) → i < l.j → AgreesAt l.product l.t i;
}
