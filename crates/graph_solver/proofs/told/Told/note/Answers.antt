use Rattle.std.proofs.Common.{ℕ, List, sym, subst}
use Rattle.graph_solver.specs.Known.{IsKept}
use Rattle.graph_solver.proofs.Clauses.{kept_under}
use Rattle.graph_solver.proofs.told.Told.note.Goals as goal

pub returns-clause-told : goal.returns-clause-told
returns-clause-told c =
    let nodes = c.args.graph.now in
    subst (λ (fs : List (ℕ × ℕ)). IsKept nodes (record { facts = fs; clauses = c.self.inside.solver })) (sym c.in_ok-push.ensures.items)
    (kept_under nodes c.self.inside.facts.items (c.args.a, c.args.b) c.self.inside.solver (subst (IsKept nodes) (sym c.self.view_is) c.requires.told))
