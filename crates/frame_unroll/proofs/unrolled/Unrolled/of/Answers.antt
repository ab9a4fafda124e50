use Rattle.frame_unroll.proofs.Standing.{ready_plain}
use Rattle.frame_unroll.proofs.unrolled.Unrolled.of.Goals as goal

pub invariant_of-result : goal.invariant_of-result
invariant_of-result c = ready_plain c.args.outline c.in_ok-cnf.cnf c.len-plain.result c.in_ok-cnf.ensures.outline c.len-plain.ensures.formula c.in_ok-cnf.ensures.clauses c.len-plain.ensures.value c.requires.none
