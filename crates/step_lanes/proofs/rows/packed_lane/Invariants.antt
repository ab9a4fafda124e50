use Rattle.step_lanes.proofs.Packed.{ArePacked}
use Rattle.step_lanes.proofs.rows.packed_lane.Given as goal

abbrev pub invariant-loop-i : goal.invariant-loop-i
invariant-loop-i l = ArePacked l.index l.words l.i l.packed.items
