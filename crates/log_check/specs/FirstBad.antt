-- The first line of a log that doesn't follow.
use Rattle.std.specs.Prelude.{◌≡◌, ℕ, zero, suc, ℤ, List, Bool, true, false, [], ◌∷◌, ◌++◌, length, take, Option, Some, None}
use Rattle.cnf_store.specs.Clauses.{Formula}
use Rattle.sat_log.specs.Derivations.{Line, Follows, clauses_of, EndsEmpty, IsAccepted}

-- a test's answer is whether it holds
abbrev pub Decides : Bool → Type 0 → Type 0
Decides true P = P
Decides false P = P → ⊥

-- n lines follow one after the other, and the next, if there is one, doesn't
abbrev pub FollowTo : ℕ → List (List ℤ) → List Line → ℕ → Type 0
FollowTo vars clauses [] zero = Unit {0}
FollowTo vars clauses [] (suc n) = ⊥
FollowTo vars clauses (l ∷ ls) zero = Follows vars clauses l → ⊥
FollowTo vars clauses (l ∷ ls) (suc n) = Follows vars clauses l × FollowTo vars (clauses ++ l.literals ∷ []) ls n

-- none where the log is accepted; else the first line that doesn't follow, or the number of lines where all do
abbrev pub IsFirstBad : Formula → List Line → Option ℕ → Type 0
IsFirstBad formula lines None = IsAccepted formula lines
IsFirstBad formula lines (Some n) = FollowTo formula.vars formula.clauses lines n × (n ≡ length lines → EndsEmpty lines → ⊥)

-- the formula's clauses and those of the first lines
abbrev pub clauses_before : Formula → List Line → ℕ → List (List ℤ)
clauses_before formula lines i = formula.clauses ++ clauses_of (take i lines)
