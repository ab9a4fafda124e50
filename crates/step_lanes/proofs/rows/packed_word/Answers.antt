use Rattle.step_lanes.proofs.Packed.{packed_more}
use Rattle.std.proofs.Common.{arith}
use Rattle.step_lanes.proofs.rows.packed_word.Goals as goal

pub loop-k-preserved : goal.loop-k-preserved
loop-k-preserved c = packed_more c.args.index c.args.words.now c.loop-k.k c.loop-k.packed (omega arith) c.loop-k.invariant
