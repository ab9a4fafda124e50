-- The least run of a difference.
use Rattle.std.specs.Prelude.{◌≡◌, ℕ, ◌+◌, ◌<◌, length}
use Rattle.circ_model.specs.Meaning.{Pair, Path, IsRun, outputs_of}
use Rattle.circ_model.specs.Verdict.{IsFirstDifference, IsLeastDifference, OutputAgrees}
use Rattle.induction_base.specs.declared.difference.Diff.{Diff}
use Rattle.induction_base.specs.Spelling.{ComesBefore, spelled}

-- a run that ends with frame t, in which the sides differ in output j
pub record DiffersAtEnd (pair : Pair) (t j : ℕ) (run : Path) : Type 0 where
  pub output : j < outputs_of pair
  pub is_run : IsRun pair run
  pub rows : length run.inputs ≡ t + 1
  pub differs : OutputAgrees pair run t j → ⊥

-- of all those none comes before it
pub record IsLeastRun (pair : Pair) (t j : ℕ) (run : Path) : Type 0 where
  pub shows : DiffersAtEnd pair t j run
  pub least : (other : Path) → DiffersAtEnd pair t j other → ComesBefore (spelled other) (spelled run) → ⊥

-- a difference as it was given
abbrev pub IsGivenAtEnd : Pair → Diff → Type 0
IsGivenAtEnd pair d = DiffersAtEnd pair d.frame d.output d.run

-- the same frame and output with the least run; where they are the pair's least difference, they are the run's first
pub record IsLeastRunOf (pair : Pair) (given d : Diff) : Type 0 where
  pub frame : d.frame ≡ given.frame
  pub output : d.output ≡ given.output
  pub least : IsLeastRun pair given.frame given.output d.run
  pub first : IsLeastDifference pair given.frame given.output → IsFirstDifference pair d.run given.frame given.output

-- two least runs are one: the run, and so the text of its trace, is a function of the pair, the frame and the output
abbrev pub OneLeastRun : Type 0
OneLeastRun = (pair : Pair) (t j : ℕ) (a b : Path) → IsLeastRun pair t j a → IsLeastRun pair t j b → a ≡ b
