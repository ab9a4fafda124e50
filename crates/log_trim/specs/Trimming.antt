-- Logs in which no line but the last stands unused. Lines are counted from 0; the formula has `given` clauses, and a hint past
-- them is of a line.
use Rattle.std.specs.Prelude.{◌≡◌, ◌<◌, ℕ, ◌+◌, ◌-◌, leb, Bool, true, false, if◌then◌else◌, List, [], ◌∷◌, length, map, slice_index_or, ◌⊎◌}
use Rattle.std.specs.List.{Contains}
use Rattle.sat_log.specs.Derivations.{Line, line_at}

-- hints that name line i
abbrev pub Hint : ℕ → List ℕ → ℕ → Type 0
Hint given hints i = Contains hints (given + i + 1)

-- each line but the last is hinted by a later one
abbrev pub IsTrimmed : ℕ → List Line → Type 0
IsTrimmed given lines = (i : ℕ) → i + 1 < length lines → (j : ℕ) × (i < j) × (j < length lines) × Hint given (line_at lines j).hints i

-- the items of one list stand in another, in the same order
abbrev pub IsSubsequence : {X : Type 0} → List X → List X → Type 0
IsSubsequence [] ys = Unit {0}
IsSubsequence (x ∷ xs) [] = ⊥
IsSubsequence (x ∷ xs) (y ∷ ys) = ((x ≡ y) × IsSubsequence xs ys) ⊎ IsSubsequence (x ∷ xs) ys

abbrev pub is_marked : List Bool → ℕ → Bool
is_marked marks i = slice_index_or marks i false

-- marks are added at the lines before line i that these hints name
pub record AddsMarks (given : ℕ) (hints : List ℕ) (i : ℕ) (before after : List Bool) : Type 0 where
  pub size : length after ≡ length before
  pub kept : (j : ℕ) → is_marked before j ≡ true → is_marked after j ≡ true
  pub hinted : (j : ℕ) → j < i → Hint given hints j → is_marked after j ≡ true
  pub only : (j : ℕ) → is_marked after j ≡ true → (is_marked before j ≡ true) ⊎ ((j < i) × Hint given hints j)

-- the last line is marked, and each line that a later marked one hints, and no other
pub record AreNeeded (given : ℕ) (lines : List Line) (marks : List Bool) : Type 0 where
  pub size : length marks ≡ length lines
  pub last : (i : ℕ) → i + 1 ≡ length lines → is_marked marks i ≡ true
  pub hinted : (i j : ℕ) → i < j → is_marked marks j ≡ true → Hint given (line_at lines j).hints i → is_marked marks i ≡ true
  pub only : (i : ℕ) → i + 1 < length lines → is_marked marks i ≡ true → (j : ℕ) × (i < j) × (is_marked marks j ≡ true) × Hint given (line_at lines j).hints i

-- a clause's number where lines were dropped; `before` has for each line how many lines before it stay
abbrev pub new_number : ℕ → List ℕ → ℕ → ℕ
new_number given before h = if leb h given then h else given + slice_index_or before (h - given - 1) (h - given - 1) + 1

abbrev pub renumbered : ℕ → List ℕ → Line → Line
renumbered given before line = record { literals = line.literals; hints = map (new_number given before) line.hints }
