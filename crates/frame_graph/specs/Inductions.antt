-- What k-induction has to prove of a place and the least place of its class: its base and its step (van Eijk, IEEE TCAD 19(7), 2000;
-- Sheeran, Singh, Stålmarck, FMCAD 2000).
use Rattle.std.specs.Prelude.{◌≡◌, ℕ, ◌+◌, ◌<◌, ◌≤◌, length}
use Rattle.circ_model.specs.Meaning.{Pair, Path, IsPath, IsRun, places_of, row_at}
use Rattle.circ_model.specs.Correspondence.{HoldsIn}
use Rattle.class_partition.specs.Classes.{Classes, HoldIn, needed}

-- induction over k frames, in which classes of a pair's places are assumed
pub record Induction : Type 0 where
  pub pair : Pair
  pub k : ℕ
  pub classes : Classes

-- a path of k + 1 frames, from any state, in the first k of which the classes hold
pub record IsStepPath (i : Induction) (path : Path) : Type 0 where
  pub is_path : IsPath i.pair path
  pub rows : length path.inputs ≡ i.k + 1
  pub hold : (t : ℕ) → t < i.k → HoldIn (places_of i.pair) i.classes (row_at i.pair path t)

-- a run of k frames
pub record IsBaseRun (pair : Pair) (k : ℕ) (run : Path) : Type 0 where
  pub is_run : IsRun pair run
  pub rows : length run.inputs ≡ k

-- a run of so many frames or more
pub record IsRunTo (pair : Pair) (k : ℕ) (run : Path) : Type 0 where
  pub is_run : IsRun pair run
  pub rows : k ≤ length run.inputs

-- a place is equal to its class's least place, at their relative phase, in the last frame of each path of the step
abbrev pub StepPasses : Induction → ℕ → Type 0
StepPasses i p = (path : Path) → IsStepPath i path → HoldsIn (row_at i.pair path i.k) (needed i.classes p)

-- and in one frame of each run of the base
abbrev pub HoldsInFrame : Induction → ℕ → ℕ → Type 0
HoldsInFrame i t p = (run : Path) → IsBaseRun i.pair i.k run → HoldsIn (row_at i.pair run t) (needed i.classes p)

-- in each of its frames
abbrev pub BasePasses : Induction → ℕ → Type 0
BasePasses i p = (t : ℕ) → t < i.k → HoldsInFrame i t p

-- two literals of the pair are equal in one frame of each run of k frames or more
abbrev pub LiteralsHoldInFrame : Pair → ℕ → ℕ → ℕ → ℕ → Type 0
LiteralsHoldInFrame pair k t a b = (run : Path) → IsRunTo pair k run → HoldsIn (row_at pair run t) (a, b)
