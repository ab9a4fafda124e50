-- The laws of reasons and of ranks, as statements.
use Rattle.std.specs.Prelude.{◌≡◌, ◌<◌, ◌^◌, ◌++◌, ◌∷◌, [], ℕ, List, Bool, length, slice_index, take}
use Rattle.cnf_store.specs.Codes.{MakesTrue, Satisfies}
use Rattle.sat_trail.specs.Rank.{rank}
use Rattle.sat_trail.specs.Trail.{AreReasoned}

-- an assignment that satisfies the clauses and makes each decided literal true makes all literals of the trail true
abbrev pub ReasonsImply : Type 0
ReasonsImply =
    (clauses : List (List ℕ)) (lits reasons : List ℕ) (row : List Bool) → AreReasoned clauses lits reasons → Satisfies row clauses
    → ((i : ℕ) → i < length lits → slice_index reasons i ≡ 0 → MakesTrue row (slice_index lits i))
    → (i : ℕ) → i < length lits → MakesTrue row (slice_index lits i)

-- in so many places there are only so many ranks
abbrev pub RanksAreBounded : Type 0
RanksAreBounded = (places : ℕ) (reasons : List ℕ) → rank places reasons < 3 ^ places

-- one more literal raises the rank
abbrev pub MoreRanksHigher : Type 0
MoreRanksHigher = (places : ℕ) (reasons : List ℕ) (r : ℕ) → length reasons < places → rank places reasons < rank places (reasons ++ r ∷ [])

-- so does an implied literal in place of a decision and of all that follows it
abbrev pub ImpliedRanksHigher : Type 0
ImpliedRanksHigher =
    (places i : ℕ) (reasons : List ℕ) (r : ℕ) → i < length reasons → i < places → slice_index reasons i ≡ 0 → 0 < r
    → rank places reasons < rank places (take i reasons ++ r ∷ [])
