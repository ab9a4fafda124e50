-- What propagation does.
use Rattle.std.specs.Prelude.{◌≡◌, ◌≤◌, ◌<◌, ℕ, length, Option, Some, None}
use Rattle.sat_core.specs.declared.solving.Solver.{Solver}
use Rattle.cnf_store.specs.Codes.{clause_at}
use Rattle.sat_trail.specs.Trail.{IsWrong}
use Rattle.sat_core.specs.Solving.{Keeps}
use Rattle.sat_trail.specs.Rank.{rank}

-- the trail goes on
pub record Grows (old new : Solver) : Type 0 where
  pub keeps : Keeps new
  pub rank : rank old.vars old.trail.reasons.items ≤ rank new.vars new.trail.reasons.items
  pub vars : new.vars ≡ old.vars
  pub formula : new.formula ≡ old.formula
  pub clauses : new.db ≡ old.db

-- this clause is false
pub record IsFalse (s : Solver) (c : ℕ) : Type 0 where
  pub known : (0 < c) × (c ≤ length s.db)
  pub wrong : IsWrong s.trail.lits.items (length s.trail.lits.items) (clause_at s.db c)

abbrev pub HasSwept : Solver → Solver → Option ℕ → Type 0
HasSwept old new None = Grows old new
HasSwept old new (Some c) = Grows old new × IsFalse new c
