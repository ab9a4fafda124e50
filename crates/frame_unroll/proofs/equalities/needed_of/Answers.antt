use Rattle.std.proofs.Common.{[]}
use Rattle.frame_unroll.specs.Members.{member_pair}
use Rattle.frame_unroll.proofs.Appending.{added_more}
use Rattle.frame_unroll.proofs.equalities.needed_of.Goals as goal

pub loop-p-preserved : goal.loop-p-preserved
loop-p-preserved c = added_more (member_pair c.args.classes.now) [] c.loop-p.pairs.items c.push_needed.new.pairs.items c.loop-p.p c.loop-p.invariant c.in_ok-push_needed.ensures
