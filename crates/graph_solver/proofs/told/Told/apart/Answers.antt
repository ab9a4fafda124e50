use Rattle.std.proofs.Common.{ℕ, List, ap, subst}
use Rattle.graph_solver.specs.Known.{IsBothWays, Known}
use Rattle.graph_solver.proofs.Equal.{asked}
use Rattle.graph_solver.proofs.told.Told.apart.Goals as goal

pub returns-clause-outcome : goal.returns-clause-outcome
returns-clause-outcome c =
    subst (λ (g : List (List ℕ)). IsBothWays g c.args.x c.args.y c.in_ok-second.second) (ap (λ (k : Known). k.clauses) c.self.view_is)
    (asked c.self.inside.solver c.decide.new.self c.args.x c.args.y c.not-2.result c.not.result c.code_of.result c.code_of-2.result c.code_of-3.result c.code_of-4.result c.in_ok-decide.field-0 c.in_ok-second.second
    c.not-2.ensures c.not.ensures c.code_of.ensures c.code_of-2.ensures c.code_of-3.ensures c.code_of-4.ensures c.decide.ensures.kept c.in-Refuted.is c.in_ok-decide.ensures.outcome c.in_ok-second.ensures.outcome)
