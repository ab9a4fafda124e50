-- The rule of the word: what it and the views of all seats keep, and what one step does to a view.
use Rattle.std.specs.Prelude.{◌≡◌, ◌⊎◌, ℕ, ◌+◌, ◌<◌, ◌≤◌, ◌==◌, ◌&&◌, List, [], ◌∷◌, ◌++◌, Bool, true, false, length, slice_index, MatchBool, if◌then◌else◌}
use mathlib.Core.Option.{some}
use lib.ListN.{get_elem?}
use Rattle.atomic_table.specs.Table.{Me, Step}
use Rattle.atomic_table.specs.Seated.{TableId}
use Rattle.claim_word.specs.Words.{version_of, pairs_of, index_of, next_claim, IsSince}
use Rattle.claim_word.specs.Seats.{SeatState}
use Rattle.claim_word.specs.declared.view.View.{View}

-- whether two claims are one
abbrev pub is_same : ℕ × ℕ → ℕ × ℕ → Bool
is_same c d = (c.0 == d.0) && (c.1 == d.1)

-- how often a claim stands in a list
abbrev pub times : ℕ × ℕ → List (ℕ × ℕ) → ℕ
times c [] = 0
times c (d ∷ ds) = (if is_same c d then 1 else 0) + times c ds

-- and in those of all views
abbrev pub claimed : ℕ × ℕ → List View → ℕ
claimed c [] = 0
claimed c (v ∷ vs) = times c v.claims + claimed c vs

-- the claim isn't below the word
abbrev pub IsPast : ℕ → ℕ × ℕ → Type 0
IsPast word c = (version_of word < c.0) ⊎ ((version_of word ≡ c.0) × (index_of word ≤ c.1))

-- each claim is below the word, and stands in one view, once; one seat at most is the board's, and the word comes from the one that it wrote
pub record IsKept (word : ℕ) (views : List View) : Type 0 where
  pub fine : index_of word ≤ pairs_of word
  pub below : (c : ℕ × ℕ) → IsPast word c → claimed c views ≡ 0
  pub apart : (c : ℕ × ℕ) → claimed c views ≤ 1
  pub board : (place : ℕ) × ((p : ℕ) (v : View) → get_elem? views p ≡ some v → v.board ≡ true → (p ≡ place) × IsSince v.written word)

-- the rule of a table whose first word is the claims'
abbrev pub Holds : List ℕ → List View → Type 0
Holds words views = (0 < length words) × IsKept (slice_index words 0) views

-- the board's seat of a new word
abbrev pub opening_view : ℕ → View
opening_view word = record { claims = []; seen = []; board = true; written = word }

-- a seat that was split off, and one that was joined
abbrev pub nobody : View
nobody = record { claims = []; seen = []; board = false; written = 0 }

-- the view after each step
abbrev pub with_seen : View → ℕ → View
with_seen v word = record v { seen = v.seen ++ word ∷ [] }

abbrev pub with_claim : View → ℕ × ℕ → View
with_claim v c = record v { claims = v.claims ++ c ∷ [] }

abbrev pub advanced : View → ℕ → View
advanced v word = record v { written = word }

abbrev pub joined : View → View → View
joined v w = record v { claims = v.claims ++ w.claims; seen = v.seen ++ w.seen }

-- what the rule says of one view
pub record Agrees (v : View) (word : ℕ) : Type 0 where
  pub fine : index_of word ≤ pairs_of word
  pub below : (c : ℕ × ℕ) → IsPast word c → times c v.claims ≡ 0
  pub apart : (c : ℕ × ℕ) → times c v.claims ≤ 1
  pub since : v.board ≡ true → IsSince v.written word

-- a load lists the word that it read
abbrev pub Looked : Me ℕ View → ℕ → Me ℕ View → Type 0
Looked me found after = (after ≡ (with_seen me.0 found, me.1)) × Agrees me.0 found

-- or leaves the view
abbrev pub Checked : Me ℕ View → ℕ → Me ℕ View → Type 0
Checked me found after = (after ≡ me) × Agrees me.0 found

-- an exchange adds the claim that the word offered, or lists the word that it found
abbrev pub After : Bool → ℕ → Me ℕ View → ℕ → Me ℕ View → Type 0
After hit old me found after = MatchBool hit (after ≡ (with_claim me.0 (next_claim old), me.1)) (after ≡ (with_seen me.0 found, me.1))

abbrev pub Tried : Step ℕ → Me ℕ View → ℕ → Me ℕ View → Type 0
Tried s me found after = After (found == s.first) s.first me found after

-- a swap keeps the word that it wrote
abbrev pub Advanced : Step ℕ → Me ℕ View → ℕ → Me ℕ View → Type 0
Advanced s me found after = after ≡ (advanced me.0 s.first, me.1)

-- a seat as callers see it
abbrev pub seat_state : TableId → View → SeatState
seat_state word v = record { word = word; claims = v.claims; seen = v.seen; board = v.board; written = v.written }

-- and its view
abbrev pub view_of : SeatState → View
view_of s = record { claims = s.claims; seen = s.seen; board = s.board; written = s.written }
