use Rattle.std.proofs.Common.{◌<◌, ℕ, List, [], get_or, sym, subst, length}
use Rattle.implied_clauses.specs.Implied.{Implies, Store}
use Rattle.implied_clauses.proofs.implied.Implied.clause.Goals as goal

pub returns-clause-implied : goal.returns-clause-implied
returns-clause-implied c =
    let given : List (List ℕ) = c.args.self.now.given in
    let lt : c.args.i < length c.self.inside.clauses = subst (λ (s : Store). c.args.i < length s.clauses) (sym c.self.view_is) c.requires in
    subst (Implies given) (sym c.get.ensures) (subst (λ (s : Store). Implies s.given (get_or c.self.inside.clauses c.args.i [])) c.self.view_is (c.self.invariant.3 c.args.i [] lt))
