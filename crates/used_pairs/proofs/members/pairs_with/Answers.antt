use Rattle.std.proofs.Common.{[]}
use Rattle.frame_unroll.proofs.Appending.{added_more}
use Rattle.used_pairs.specs.Logs.{pair_with}
use Rattle.used_pairs.proofs.members.pairs_with.Goals as goal

pub loop-p-preserved : goal.loop-p-preserved
loop-p-preserved c = added_more (pair_with c.args.classes.now c.args.bits.now) [] c.loop-p.pairs.items c.push_pair.new.pairs.items c.loop-p.p c.loop-p.invariant c.in_ok-push_pair.ensures
