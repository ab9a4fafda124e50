-- Lists in one row of items, cut at their ends.
use Rattle.std.specs.Prelude.{◌≡◌, ◌≤◌, ℕ, zero, suc, List, [], ◌∷◌, slice_range, slice_index}

-- the pieces between these ends
abbrev pub pieces : {X : Type 0} → List X → ℕ → List ℕ → List (List X)
pieces row from [] = []
pieces row from (e ∷ es) = slice_range row from e ∷ pieces row e es

-- the ends rise from a place to the length
abbrev pub Rises : ℕ → List ℕ → ℕ → Type 0
Rises from [] len = from ≡ len
Rises from (e ∷ es) len = (from ≤ e) × (e ≤ len) × Rises e es len

-- where piece i begins
abbrev pub start_at : ℕ → List ℕ → ℕ → ℕ
start_at from ends zero = from
start_at from ends (suc i) = slice_index ends i
