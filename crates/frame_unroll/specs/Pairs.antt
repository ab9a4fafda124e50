-- The needed pairs that the clauses of unrolled frames are about.
use Rattle.std.specs.Prelude.{◌≡◌, ◌<◌, ◌-◌, ℕ, zero, suc, ℤ, List, [], ◌∷◌, ◌++◌, length, map, flat_map, slice_index_or}
use Rattle.std.specs.List.{Contains, range_with_len}
use Rattle.circ_model.specs.Meaning.{places_of}
use Rattle.product_machine.specs.Cells.{cells}
use Rattle.frame_unroll.specs.Frames.{literal_in, frames, equal_clauses}
use Rattle.frame_unroll.specs.Unrolled.{Unrolling, clauses_of}

abbrev pub no_pair : List ℤ → List (ℕ × ℕ)
no_pair c = []

-- two clauses say that a pair is equal in a frame
abbrev pub both_pairs : ℕ × ℕ → List (List (ℕ × ℕ))
both_pairs p = (p ∷ []) ∷ (p ∷ []) ∷ []

-- in each of the first k frames
abbrev pub class_pairs : ℕ → List (ℕ × ℕ) → List (List (ℕ × ℕ))
class_pairs k needed = flat_map (λ t. flat_map both_pairs needed) (range_with_len 0 k)

-- for each clause of the frames no pair, and for each that says that a needed pair is equal in one of them that pair
abbrev pub clause_pairs : Unrolling → List (List (ℕ × ℕ))
clause_pairs u = map no_pair (frames (literal_in (places_of u.pair)) u.from_reset (cells u.pair) u.frames) ++ class_pairs (u.frames - 1) u.needed

-- clauses are counted from 1; those of a question have none
abbrev pub pairs_of : Unrolling → ℕ → List (ℕ × ℕ)
pairs_of u zero = []
pairs_of u (suc n) = slice_index_or (clause_pairs u) n []

-- the frames and the question alone
abbrev pub without_pairs : Unrolling → Unrolling
without_pairs u = record u { needed = [] }

-- a clause that has no pair stands without them too, and one that has a pair says that this is equal in one of the frames but the last
abbrev pub IsAbout : Unrolling → List ℤ → List (ℕ × ℕ) → Type 0
IsAbout u clause [] = Contains (clauses_of (without_pairs u)) clause
IsAbout u clause (p ∷ ps) = (ps ≡ []) × Contains u.needed p × ((t : ℕ) × (t < u.frames - 1) × Contains (equal_clauses (literal_in (places_of u.pair)) t p) clause)

abbrev pub EachAbout : Type 0
EachAbout = (u : Unrolling) (n : ℕ) → n < length (clauses_of u) → IsAbout u (slice_index_or (clauses_of u) n []) (pairs_of u (suc n))
