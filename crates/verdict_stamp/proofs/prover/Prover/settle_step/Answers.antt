use Rattle.verdict_stamp.proofs.Proving.{apart_by}
use Rattle.verdict_stamp.proofs.prover.Prover.settle_step.Goals as goal

pub returns-in-Some-2-clause-settled : goal.returns-in-Some-2-clause-settled
returns-in-Some-2-clause-settled c =
    apart_by c.by_latches.new.self c.args.self.now c.args.pair.member c.in_ok-vector.field-0 c.in-Some-2.vector c.by_latches.ensures.kept c.in-Some-2.is c.in_ok-vector.ensures.some
