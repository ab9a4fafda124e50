-- The least difference below a depth, and a run that shows it.
use Rattle.std.specs.Prelude.{◌≡◌, ℕ, ◌+◌, ◌<◌, length, Option, Some, None}
use Rattle.circ_model.specs.Meaning.{Pair, IsRun}
use Rattle.circ_model.specs.Verdict.{AgreeBelow, IsFirstDifference, IsLeastDifference}
use Rattle.induction_base.specs.declared.difference.Diff.{Diff}

-- its frame and output are the least below the depth, and its run, which ends there, has them as its first difference
pub record IsShown (pair : Pair) (k : ℕ) (d : Diff) : Type 0 where
  pub below : d.frame < k
  pub least : IsLeastDifference pair d.frame d.output
  pub is_run : IsRun pair d.run
  pub rows : length d.run.inputs ≡ d.frame + 1
  pub first : IsFirstDifference pair d.run d.frame d.output

-- the least difference below a depth, or none where all outputs agree below it
abbrev pub IsLeastOrNone : Pair → ℕ → Option Diff → Type 0
IsLeastOrNone pair k (Some d) = IsShown pair k d
IsLeastOrNone pair k None = AgreeBelow pair k
