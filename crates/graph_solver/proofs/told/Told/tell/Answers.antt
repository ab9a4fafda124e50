use Rattle.std.proofs.Common.{ℕ, List, sym, subst}
use Rattle.graph_solver.specs.Known.{IsKept, IsTold, Known}
use Rattle.graph_solver.proofs.Clauses.{kept_more}
use Rattle.graph_solver.proofs.told.Told.tell.Goals as goal

pub returns-clause-told : goal.returns-clause-told
returns-clause-told c =
    let nodes = c.args.graph.now in
    let facts : List (ℕ × ℕ) = c.self.inside.facts.items in
    subst (λ (cs : List (List ℕ)). IsKept nodes (record { facts = facts; clauses = cs })) (sym c.in_ok-give.ensures.ok)
    (kept_more nodes facts c.self.inside.solver c.args.clause.now (subst (IsKept nodes) (sym c.self.view_is) c.requires.told) (subst (λ (k : Known). IsTold nodes k.facts c.args.clause.now) (sym c.self.view_is) c.requires.holds))
