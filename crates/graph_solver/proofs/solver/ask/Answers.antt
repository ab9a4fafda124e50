use Rattle.std.proofs.Common.{◌∙◌, ap, arith, refl, subst, sym}
use Rattle.graph_solver.specs.Known.{IsKept, Known}
use Rattle.graph_solver.proofs.Equal.{settled}
use Rattle.graph_solver.proofs.solver.ask.Goals as goal

pub returns-clause-settled : goal.returns-clause-settled
returns-clause-settled c =
    let left = c.canonical-x.ensures.lower in
    let right = c.canonical-y.ensures.lower in
    settled c.args.graph.now c.turn_to.new.self c.args.told.now.facts c.turn_to.new.self.clauses c.args.a c.args.b c.canonical-x.result c.canonical-y.result c.in_ok-outcome.outcome (omega arith) (omega arith)
    c.canonical-x.ensures.equal c.canonical-y.ensures.equal (subst (IsKept c.args.graph.now) (sym c.in_ok-turn_to.ensures) c.in_ok-reach.ensures.told) refl (ap (λ (k : Known). k.facts) c.in_ok-turn_to.ensures ∙ c.in_ok-reach.ensures.facts) c.in_ok-outcome.ensures.outcome
