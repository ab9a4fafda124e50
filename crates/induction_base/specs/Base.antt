-- The base of an induction over k frames: what two literals do in the first k frames of every run (Sheeran, Singh, Stålmarck, FMCAD 2000).
use Rattle.std.specs.Prelude.{◌≡◌, ℕ, ◌-◌, ◌<◌, length}
use Rattle.circ_model.specs.Meaning.{Pair, Path, IsRun, row_at}
use Rattle.circ_model.specs.Correspondence.{HoldsIn}
use Rattle.sat_log.specs.Derivations.{IsAccepted}
use Rattle.frame_unroll.specs.Unrolled.{Differs, formula_of, from_reset, asks, asking}
use Rattle.induction_base.specs.declared.base.Base.{Base}
use Rattle.induction_base.specs.declared.base.Base.TheVariants.{Holds, Breaks}

-- two literals have one value in all frames of every run with k rows
abbrev pub HoldInRuns : Pair → ℕ → ℕ → ℕ → Type 0
HoldInRuns pair k a b = (run : Path) → IsRun pair run → length run.inputs ≡ k → (t : ℕ) → t < k → HoldsIn (row_at pair run t) (a, b)

-- a run with k rows, and a frame in which the two differ
pub record BreaksIn (pair : Pair) (k a b : ℕ) (run : Path) (t : ℕ) : Type 0 where
  pub is_run : IsRun pair run
  pub rows : length run.inputs ≡ k
  pub frame : t < k
  pub differs : Differs pair run t a b

-- they hold, and the log derives the empty clause from the clauses that ask for a run against it; or a run breaks them
abbrev pub IsBase : Pair → ℕ → ℕ → ℕ → Base → Type 0
IsBase pair k a b (Holds log) = HoldInRuns pair k a b × IsAccepted (formula_of (asking (from_reset pair k) (asks a b 0 (k - 1)))) log
IsBase pair k a b (Breaks run t) = BreaksIn pair k a b run t
