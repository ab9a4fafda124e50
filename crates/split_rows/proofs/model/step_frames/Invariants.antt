use Rattle.std.proofs.Common.{◌≡◌}
use Rattle.split_rows.proofs.model.step_frames.Given as goal

abbrev pub invariant-loop-t : goal.invariant-loop-t
invariant-loop-t l = (l.lanes.pair ≡ l.initial.lanes.pair) × (l.lanes.k ≡ l.initial.lanes.k) × (l.lanes.classes ≡ l.initial.lanes.classes) × (l.lanes.frames ≡ l.t)
