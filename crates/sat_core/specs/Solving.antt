-- What the solver keeps, and what it answers.
use Rattle.std.specs.Prelude.{◌≡◌, ◌<◌, ℕ, Bool, true, false, List, ◌++◌, length, Option, Some, None, Vec}
use Rattle.std.specs.declared.alloc.Global.{Global}
use Rattle.std.specs.List.{All, Any}
use Rattle.cnf_store.specs.Clauses.{Formula, satisfies}
use Rattle.cnf_store.specs.Codes.{AreWithin, MakesTrue}
use Rattle.sat_log.specs.Derivations.{AllFollow, clauses_of, IsAccepted}
use Rattle.sat_core.specs.declared.solving.Solver.{Solver}
use Rattle.sat_core.specs.declared.solving.Outcome.{Outcome}
use Rattle.sat_core.specs.declared.solving.Outcome.TheVariants.{Sat, Unsat}
use Rattle.sat_core.specs.declared.solving.Progress.{Progress}
use Rattle.sat_core.specs.declared.solving.Progress.TheVariants.{On, Refuted, Full}
use Rattle.sat_core.specs.Signed.{signed_clauses, coded}
use Rattle.sat_trail.specs.declared.trail.Trail.{Trail}
use Rattle.sat_trail.specs.Trail.{StandsBelow, AreReasoned}
use Rattle.sat_trail.specs.Rank.{rank}

-- the clauses are the formula's and what was learned, which the log derives; reasons imply
pub record Keeps (s : Solver) : Type 0 where
  pub learned : List (List ℕ)
  pub clauses : s.db ≡ s.formula ++ learned
  pub logged : clauses_of s.log ≡ signed_clauses learned
  pub follow : AllFollow s.vars (signed_clauses s.formula) s.log
  pub within : AreWithin s.vars s.db
  pub size : length s.trail.at.items ≡ s.vars
  pub reasoned : AreReasoned s.db s.trail.lits.items s.trail.reasons.items

-- the trail ranks higher
pub record Advances (old new : Solver) : Type 0 where
  pub keeps : Keeps new
  pub rank : rank old.vars old.trail.reasons.items < rank new.vars new.trail.reasons.items
  pub vars : new.vars ≡ old.vars
  pub formula : new.formula ≡ old.formula

-- every clause has a literal on the trail
abbrev pub Standing : List ℕ → List (List ℕ) → Type 0
Standing lits clauses = All (λ c. Any (StandsBelow lits (length lits)) c) clauses

-- so a search may end: with a literal on the trail of each clause, or with an accepted log
abbrev pub HasEnded : Solver → Solver → Bool → Type 0
HasEnded old new true = Standing new.trail.lits.items new.formula × (length new.trail.at.items ≡ new.vars) × (new.vars ≡ old.vars) × (new.formula ≡ old.formula)
HasEnded old new false = IsAccepted (coded old.vars old.formula) new.log

abbrev pub HasStepped : Solver → Solver → Progress → Type 0
HasStepped old new On = Advances old new
HasStepped old new Refuted = HasEnded old new false
HasStepped old new Full = HasEnded old new true

-- a row satisfies the formula, or the log is accepted
abbrev pub HasDecided : Solver → Solver → Option (Vec Bool Global) → Type 0
HasDecided old new (Some row) = (length row.items ≡ old.vars) × (satisfies row.items (signed_clauses old.formula) ≡ true)
HasDecided old new None = HasEnded old new false

-- the row makes true what stands on the trail
pub record IsRowOf (trail : Trail) (row : List Bool) : Type 0 where
  pub size : length row ≡ length trail.at.items
  pub trues : (l : ℕ) → StandsBelow trail.lits.items (length trail.lits.items) l → MakesTrue row l

abbrev pub IsOutcome : Formula → Outcome → Type 0
IsOutcome formula (Sat row) = (length row.items ≡ formula.vars) × (satisfies row.items formula.clauses ≡ true)
IsOutcome formula (Unsat log) = IsAccepted formula log
