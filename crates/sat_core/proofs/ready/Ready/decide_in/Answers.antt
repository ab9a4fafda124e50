use Rattle.std.proofs.Common.{ap, subst}
use Rattle.cnf_store.specs.Clauses.{Formula}
use Rattle.sat_core.specs.Solving.{IsOutcome}
use Rattle.sat_core.proofs.Signing.{joined_is}
use Rattle.sat_core.proofs.ready.Ready.decide_in.Goals as goal

pub returns-clause-outcome : goal.returns-clause-outcome
returns-clause-outcome c =
    let f : Formula = c.args.self.now in
    let g : Formula = c.args.own.now in
    let shared = ap (λ (x : Formula). x.clauses) c.self.view_is in
    let same = joined_is c.vars.result c.self.inside.codes c.in_ok-question.field-0.question.own f g c.vars.ensures.value shared c.in_ok-question.ensures.value in
    subst (λ (x : Formula). IsOutcome x c.in_ok-outcome.field-0.outcome) same c.in_ok-outcome.ensures
