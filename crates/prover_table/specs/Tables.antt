-- What is known before a pair is settled at a table, and what comes of it.
use Rattle.std.specs.Prelude.{◌≡◌, ℕ, Bool, ◌≤◌}
use Rattle.circ_model.specs.Meaning.{Pair}
use Rattle.boxcar.specs.Table.{Shelves, Shows}
use Rattle.pair_sweep.specs.Sweeps.{Extent}
use Rattle.verdict_stamp.specs.Published.{Stamped}
use Rattle.verdict_stamp.specs.Known.{KnownClasses}
use Rattle.verdict_stamp.specs.declared.prover.Proof.{Proof}
use Rattle.verdict_stamp.specs.declared.prover.Proof.TheVariants.{Holds, Splits}
use Rattle.refine_board.specs.Running.{Claiming, IsAbout, IsOf}

-- whether a table has a bench, and whether it has what was proved before
pub record Laid : Type 0 where
  pub bench : Bool
  pub before : Bool

-- the frames of a listed version of the run's pair and k
abbrev pub IsBenchOf : Shelves → Pair → ℕ → Stamped → Type 0
IsBenchOf list pair k bench = Shows list bench × (bench.value.version.pair ≡ pair) × (bench.value.version.k ≡ k)

-- known classes of the pair, for as many frames or fewer
abbrev pub IsKnownFor : Pair → ℕ → KnownClasses → Type 0
IsKnownFor pair k n = (n.pair ≡ pair) × (n.k ≤ k)

-- what proofs of the pair leave to others, for this very number of frames
abbrev pub IsMemoryFor : Pair → ℕ → Extent → Type 0
IsMemoryFor pair k m = (m.pair ≡ pair) × (m.k ≡ k)

-- what comes of a claimed pair: a verdict under its version, or a vector of the run's netlists and k
abbrev pub IsFoundFor : Pair → ℕ → Claiming → Proof → Type 0
IsFoundFor pair k claimed (Holds w) = IsAbout w claimed.pair × (w.version ≡ claimed.stamp.value.version)
IsFoundFor pair k claimed (Splits x) = IsOf pair k x
