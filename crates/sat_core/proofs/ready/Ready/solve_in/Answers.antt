use Rattle.std.proofs.Common.{subst}
use Rattle.sat_log.proofs.Soundness.{refuted}
use Rattle.sat_core.specs.Answers.{joined}
use Rattle.sat_core.specs.Solving.{IsOutcome}
use Rattle.sat_core.proofs.ready.Ready.solve_in.Goals as goal

pub returns-in-Unsat : goal.returns-in-Unsat
returns-in-Unsat c =
    let f = joined c.args.self.now c.args.own.now in
    let a = subst (IsOutcome f) c.in-Unsat.is c.in_ok-row.ensures.outcome in
    (a, refuted f c.in-Unsat.log a)
