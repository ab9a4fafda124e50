-- What a look at the front of a clause tells, and which clause stands where.
use Rattle.std.proofs.Common.{◌≡◌, ◌≤◌, ◌<◌, ◌+◌, ◌-◌, ◌/◌, ℕ, List, [], take, length, get_or, arith, ap, refl, ◌⊎◌, inl, inr, Option, Some, None, Bool, subst}
use Rattle.std.proofs.lemmas.List.{take_all}
use Rattle.std.proofs.lemmas.List.Elements.{All-more, All-weaker, Contains-get_or}
use Rattle.std.specs.Prelude.{if◌then◌else◌}
use Rattle.std.specs.List.{All, Contains}
use Rattle.cnf_store.specs.Codes.{neg, clause_at}
use Rattle.sat_trail.specs.Trail.{StandsBelow, IsWrong, IsUnit}

-- what is known of the clause's front: all false, or all but one, which is free
abbrev pub SoFar : List ℕ → List ℕ → List ℕ → List ℕ → Option ℕ → Type 0
SoFar lits at clause front None = IsWrong lits (length lits) front
SoFar lits at clause front (Some u) = Contains clause u × (get_or at (u / 2) 0 ≡ 0) × All (λ m. (m ≡ u) ⊎ StandsBelow lits (length lits) (neg m)) front

-- the literal, where it was met
abbrev pub met : Bool → ℕ → Option ℕ
met has l = if has then Some l else None

-- one more literal that is false
pub so_far_false : (lits at clause : List ℕ) (i : ℕ) (unit : Option ℕ) → i < length clause → StandsBelow lits (length lits) (neg (get_or clause i 0)) → SoFar lits at clause (take i clause) unit → SoFar lits at clause (take (i + 1) clause) unit
so_far_false lits at clause i None lt here s = All-more (λ m. StandsBelow lits (length lits) (neg m)) clause i 0 lt s here
so_far_false lits at clause i (Some u) lt here s = (s.0, s.1, All-more (λ m. (m ≡ u) ⊎ StandsBelow lits (length lits) (neg m)) clause i 0 lt s.2 (inr here))

-- the first one that is free
pub so_far_free : (lits at clause : List ℕ) (i : ℕ) → i < length clause → get_or at (get_or clause i 0 / 2) 0 ≡ 0 → IsWrong lits (length lits) (take i clause) → SoFar lits at clause (take (i + 1) clause) (Some (get_or clause i 0))
so_far_free lits at clause i lt free w = (
  Contains-get_or clause i 0 lt,
  free,
  All-more (λ m. (m ≡ get_or clause i 0) ⊎ StandsBelow lits (length lits) (neg m)) clause i 0 lt
      (All-weaker (λ m. StandsBelow lits (length lits) (neg m)) (λ m. (m ≡ get_or clause i 0) ⊎ StandsBelow lits (length lits) (neg m)) (λ m h. inr h) (take i clause) w) (inl refl),
)

-- the front is the whole clause
pub so_far_all : (lits at clause : List ℕ) (i : ℕ) (unit : Option ℕ) → length clause ≤ i → SoFar lits at clause (take i clause) unit → SoFar lits at clause clause unit
so_far_all lits at clause i unit le s = subst (λ (xs : List ℕ). SoFar lits at clause xs unit) (take_all i clause le) s

-- all of the clause but one
pub so_far_unit : (lits at clause : List ℕ) (u : ℕ) → SoFar lits at clause clause (Some u) → IsUnit lits at clause u
so_far_unit lits at clause u s = record { inside = s.0; free = s.1; others = s.2 }

-- places are counted from 0, clauses from 1
pub at_next : (db : List (List ℕ)) (i : ℕ) → get_or db i [] ≡ clause_at db (i + 1)
at_next db i = ap (λ (n : ℕ). get_or db n []) (back i)
  where
    back : (i : ℕ) → i ≡ i + 1 - 1
    back i = omega arith
