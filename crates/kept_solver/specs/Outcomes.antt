-- What a question under two assumed literals comes to.
use Rattle.std.specs.Prelude.{⊤, ℕ, List, [], ◌∷◌}
use Rattle.cnf_store.specs.Codes.{neg}
use Rattle.implied_clauses.specs.Implied.{Implies}
use Rattle.kept_solver.specs.declared.solver.Outcome.{Outcome}
use Rattle.kept_solver.specs.declared.solver.Outcome.TheVariants.{Refuted, Model, Unknown}

-- refuted: where all given clauses are true, one of the two literals is false
abbrev pub IsOutcome : List (List ℕ) → ℕ → ℕ → Outcome → Type 0
IsOutcome given a b Refuted = Implies given (neg a ∷ neg b ∷ [])
IsOutcome given a b Model = ⊤
IsOutcome given a b Unknown = ⊤
