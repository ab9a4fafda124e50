use Rattle.std.proofs.Common.{IfSome, Option, subst}
use Rattle.sat_core.specs.Answers.{IsAnswer}
use Rattle.sat_core.specs.declared.answer.Answer.{Answer}
use Rattle.cnf_store.specs.Clauses.{Formula}
use Rattle.and_graph.proofs.asking.Asker.take_in.Goals as goal

pub returns-in_ok-learn-in-Unsat-clause-equal : goal.returns-in_ok-learn-in-Unsat-clause-equal
returns-in_ok-learn-in-Unsat-clause-equal c =
    let formula : Formula = c.self.inside.cone.cnf in
    let some = subst (λ (o : Option Answer). IfSome o (IsAnswer formula)) c.in-Some-answer.is c.self.invariant.0 in
    let answer = subst (IsAnswer formula) c.in-Unsat.is some in
    (c.stands.ensures.question c.if-not-stands.false).refutes answer.1
