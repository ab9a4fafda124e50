-- The clauses that a log's last line reaches through hints. Clauses are counted from 1: first the formula's, then the log's lines, which
-- are counted from 0.
use Rattle.std.specs.Prelude.{◌≡◌, ◌<◌, ◌+◌, ◌↔◌, ◌⊎◌, ℕ, ℤ, List, [], Bool, true, false, length, slice_index_or}
use Rattle.std.specs.List.{Contains}
use Rattle.cnf_store.specs.Clauses.{clause_true}
use Rattle.sat_log.specs.Derivations.{Line, line_at}

-- the last line is reached, and so is what the hints of a line name that is reached; the formula has `given` clauses
pub data IsReached (given : ℕ) (lines : List Line) : ℕ → Type 0 where
  LastLine : (h i : ℕ) → i + 1 ≡ length lines → h ≡ given + i + 1 → IsReached given lines h
  Hinted : (h i : ℕ) → i < length lines → IsReached given lines (given + i + 1) → Contains (line_at lines i).hints h → IsReached given lines h

-- clause n + 1 has a mark
abbrev pub is_marked : List Bool → ℕ → Bool
is_marked marks n = slice_index_or marks n false

-- so many clauses, from the first one on, have a mark exactly where they are reached
pub record AreReached (given : ℕ) (lines : List Line) (count : ℕ) (marks : List Bool) : Type 0 where
  pub size : length marks ≡ count
  pub exact : (n : ℕ) → n < count → (is_marked marks n ≡ true) ↔ IsReached given lines (n + 1)

-- the clauses that have a mark are true under an assignment
abbrev pub SatisfiesMarked : List Bool → List (List ℤ) → List Bool → Type 0
SatisfiesMarked row clauses marks = (n : ℕ) → n < length clauses → is_marked marks n ≡ true → clause_true row (slice_index_or clauses n []) ≡ true

-- marks are added at the clauses that these hints name
pub record AddsMarks (hints : List ℕ) (before after : List Bool) : Type 0 where
  pub size : length after ≡ length before
  pub kept : (n : ℕ) → is_marked before n ≡ true → is_marked after n ≡ true
  pub hinted : (n : ℕ) → Contains hints (n + 1) → is_marked after n ≡ true
  pub only : (n : ℕ) → is_marked after n ≡ true → (is_marked before n ≡ true) ⊎ Contains hints (n + 1)
