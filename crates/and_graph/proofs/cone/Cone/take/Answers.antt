use Rattle.std.proofs.Common.{subst}
use Rattle.sat_core.specs.Answers.{IsAnswer}
use Rattle.and_graph.proofs.cone.Cone.take.Goals as goal

pub returns-in_ok-learn-in-Unsat-clause-equal : goal.returns-in_ok-learn-in-Unsat-clause-equal
returns-in_ok-learn-in-Unsat-clause-equal c =
    let answer = subst (IsAnswer c.args.self.now.cnf) c.in-Unsat.is c.requires.answer in
    c.requires.question.refutes answer.1
