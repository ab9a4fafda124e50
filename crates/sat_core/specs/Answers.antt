-- What the solver answers.
use Rattle.std.specs.Prelude.{◌≡◌, ◌++◌, List, Bool, true, false, length}
use Rattle.cnf_store.specs.Clauses.{Formula, satisfies}
use Rattle.sat_log.specs.Derivations.{IsAccepted}
use Rattle.sat_core.specs.declared.answer.Answer.{Answer}
use Rattle.sat_core.specs.declared.answer.Answer.TheVariants.{Sat, Unsat}

-- a row with a bit for each variable that satisfies all clauses; or an accepted log, and then no row does
abbrev pub IsAnswer : Formula → Answer → Type 0
IsAnswer formula (Sat row) = (length row ≡ formula.vars) × (satisfies row formula.clauses ≡ true)
IsAnswer formula (Unsat log) = IsAccepted formula log × ((row : List Bool) → satisfies row formula.clauses ≡ false)

-- two formulas as one, over the variables of the second
abbrev pub joined : Formula → Formula → Formula
joined shared own = record { vars = own.vars; clauses = shared.clauses ++ own.clauses }
