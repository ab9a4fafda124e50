use Rattle.std.proofs.Common.{arith}
use Rattle.step_lanes.proofs.Packed.{packed_all}
use Rattle.step_lanes.proofs.rows.packed_lane.Goals as goal

pub returns-clause-bits : goal.returns-clause-bits
returns-clause-bits c = packed_all c.args.index c.args.words.now c.loop-i.i c.loop-i.packed.items (omega arith) c.loop-i.invariant
