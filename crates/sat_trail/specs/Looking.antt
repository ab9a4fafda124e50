-- What a look at a literal, at a clause or at all clauses tells.
use Rattle.std.specs.Prelude.{◌≡◌, ◌≤◌, ◌<◌, ◌/◌, ℕ, List, length, slice_index, ◌⊎◌}
use Rattle.std.specs.List.{All, Any}
use Rattle.cnf_store.specs.Codes.{neg, clause_at}
use Rattle.cnf_store.specs.declared.value.Value.{Value}
use Rattle.cnf_store.specs.declared.value.Value.TheVariants.{True, False, Free}
use Rattle.sat_trail.specs.declared.looking.ClauseStatus.{ClauseStatus}
use Rattle.sat_trail.specs.declared.looking.ClauseStatus.TheVariants.{Holds, Open, Unit, Wrong}
use Rattle.sat_trail.specs.declared.looking.Look.{Look}
use Rattle.sat_trail.specs.declared.looking.Look.TheVariants.{Implied, Conflict, Quiet}
use Rattle.sat_trail.specs.Trail.{StandsBelow, IsWrong, IsUnit}

-- a literal is true where it stands on the trail, false where its complement does, and free where its variable has no place
abbrev pub IsWorth : List ℕ → List ℕ → ℕ → Value → Type 0
IsWorth lits at l True = StandsBelow lits (length lits) l
IsWorth lits at l False = StandsBelow lits (length lits) (neg l)
IsWorth lits at l Free = slice_index at (l / 2) ≡ 0

-- some literal of the clause is true
abbrev pub IsTrueIn : List ℕ → List ℕ → Type 0
IsTrueIn lits clause = Any (StandsBelow lits (length lits)) clause

-- some literal of the clause is free
abbrev pub IsOpenIn : List ℕ → List ℕ → Type 0
IsOpenIn at clause = Any (λ m. slice_index at (m / 2) ≡ 0) clause

-- a true literal, a free one, a free one among others that are false, or none but false ones
abbrev pub IsStatus : List ℕ → List ℕ → List ℕ → ClauseStatus → Type 0
IsStatus lits at clause Holds = IsTrueIn lits clause
IsStatus lits at clause Open = IsOpenIn at clause
IsStatus lits at clause (Unit l) = IsUnit lits at clause l
IsStatus lits at clause Wrong = IsWrong lits (length lits) clause

-- a clause that implies a literal, or one that is false; with neither, each has a literal that is true or free
abbrev pub IsLook : List (List ℕ) → List ℕ → List ℕ → Look → Type 0
IsLook clauses lits at (Implied l r) = (0 < r) × (r ≤ length clauses) × IsUnit lits at (clause_at clauses r) l
IsLook clauses lits at (Conflict r) = (0 < r) × (r ≤ length clauses) × IsWrong lits (length lits) (clause_at clauses r)
IsLook clauses lits at Quiet = All (λ c. IsTrueIn lits c ⊎ IsOpenIn at c) clauses
