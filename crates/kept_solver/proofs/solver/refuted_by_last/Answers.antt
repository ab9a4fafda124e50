use Rattle.std.proofs.Common.{[], ◌∷◌, ℕ, subst₂}
use Rattle.implied_clauses.specs.Implied.{Implies}
use Rattle.kept_solver.proofs.Questions.{refutes}
use Rattle.kept_solver.proofs.solver.refuted_by_last.Goals as goal

pub returns-then-is_over : goal.returns-then-is_over
returns-then-is_over c =
    subst₂ (λ (x y : ℕ). Implies c.args.store.now.given (x ∷ y ∷ [])) c.complement.ensures c.complement-2.ensures
    (refutes c.args.store.now.given c.clause.result.now c.complement.result c.complement-2.result c.clause.ensures.implied (c.is_over.ensures c.if-is_over.true))
