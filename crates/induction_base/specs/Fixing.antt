-- How the least run is found: one bit after another is fixed.
use Rattle.std.specs.Prelude.{◌≡◌, ℕ, ◌+◌, ◌<◌, List, All, length, true, false, not, Option, Some, None}
use Rattle.circ_model.specs.Meaning.{Pair, Path, IsPath, bit, row_at, value_in}
use Rattle.circ_model.specs.Correspondence.{IsLiteral}
use Rattle.frame_questions.specs.Assuming.{IsTrueAt}
use Rattle.induction_base.specs.LeastRun.{DiffersAtEnd}
use Rattle.induction_base.specs.Spelling.{SameBelow, spelled}

-- a literal of the pair that is true in its frame exactly on the paths with so many rows that have 0 as their bit i
pub record IsZeroAt (pair : Pair) (rows i : ℕ) (s : ℕ × ℕ) : Type 0 where
  pub frame : s.0 < rows
  pub literal : IsLiteral pair s.1
  pub low : (path : Path) → IsPath pair path → length path.inputs ≡ rows → value_in (row_at pair path s.0) s.1 ≡ not (bit (spelled path) i)

-- a run that differs on which literals are true, or that there is none
abbrev pub IsLower : Pair → ℕ → ℕ → List (ℕ × ℕ) → Option Path → Type 0
IsLower pair t j assumed (Some path) = DiffersAtEnd pair t j path × All (IsTrueAt pair path) assumed
IsLower pair t j assumed None = (path : Path) → DiffersAtEnd pair t j path → All (IsTrueAt pair path) assumed → ⊥

-- the first i bits are fixed: literals are true exactly on the paths that have them as the run has, and no run that differs has 0 where this
-- one has 1 after the same bits
pub record IsFixed (pair : Pair) (t j i : ℕ) (fixed : List (ℕ × ℕ)) (run : Path) : Type 0 where
  pub shows : DiffersAtEnd pair t j run
  pub literals : All (λ (p : ℕ × ℕ). (p.0 < t + 1) × IsLiteral pair p.1) fixed
  pub same : (path : Path) → IsPath pair path → length path.inputs ≡ t + 1 → All (IsTrueAt pair path) fixed → SameBelow i (spelled path) (spelled run)
  pub holds : (path : Path) → IsPath pair path → length path.inputs ≡ t + 1 → SameBelow i (spelled path) (spelled run) → All (IsTrueAt pair path) fixed
  pub least : (other : Path) → DiffersAtEnd pair t j other → (k : ℕ) → k < i → SameBelow k (spelled other) (spelled run) → bit (spelled other) k ≡ false → bit (spelled run) k ≡ true → ⊥
