-- The law of derivations, as a statement.
use Rattle.std.specs.Prelude.{◌≡◌, List, Bool, false}
use Rattle.cnf_store.specs.Clauses.{Formula, satisfies}
use Rattle.sat_log.specs.Derivations.{Line, IsAccepted}

-- an accepted log leaves no satisfying assignment
abbrev pub Refuted : Type 0
Refuted = (formula : Formula) (lines : List Line) → IsAccepted formula lines → (row : List Bool) → satisfies row formula.clauses ≡ false
