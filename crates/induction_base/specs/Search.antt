-- How the least difference is found: frame by frame, and in a frame output by output.
use Rattle.std.specs.Prelude.{◌≡◌, ℕ, ◌+◌, ◌<◌, ◌≤◌, length, Option, Some, None}
use Rattle.circ_model.specs.Meaning.{Pair, Path, IsRun, outputs_of, places_of, row_at}
use Rattle.circ_model.specs.Correspondence.{HoldsIn}
use Rattle.circ_model.specs.Verdict.{OutputAgrees}
use Rattle.class_partition.specs.Classes.{Classes}
use Rattle.class_partition.specs.Laws.{PairOutput}
use Rattle.frame_unroll.specs.Unrolled.{Differs, Unrolling, from_reset}
use Rattle.induction_base.specs.declared.difference.Diff.{Diff}
use Rattle.induction_base.specs.LeastRun.{DiffersAtEnd}

-- frames from reset, up to 64
pub record AreOfRuns (pair : Pair) (u : Unrolling) : Type 0 where
  pub few : u.frames ≤ 64
  pub are : u ≡ from_reset pair u.frames

-- a run that ends with frame t, in which two literals of the pair differ
pub record ApartAtEnd (pair : Pair) (t a b : ℕ) (run : Path) : Type 0 where
  pub is_run : IsRun pair run
  pub rows : length run.inputs ≡ t + 1
  pub differs : Differs pair run t a b

-- two literals are equal in frame t of every run
abbrev pub HoldAt : Pair → ℕ → ℕ → ℕ → Type 0
HoldAt pair t a b = (run : Path) → IsRun pair run → t < length run.inputs → HoldsIn (row_at pair run t) (a, b)

-- such a run, or that there is none
abbrev pub IsApartOrNone : Pair → ℕ → ℕ → ℕ → Option Path → Type 0
IsApartOrNone pair t a b (Some run) = ApartAtEnd pair t a b run
IsApartOrNone pair t a b None = HoldAt pair t a b

-- an output agrees in frame t of every run
abbrev pub AgreesAt : Pair → ℕ → ℕ → Type 0
AgreesAt pair t j = (run : Path) → IsRun pair run → t < length run.inputs → OutputAgrees pair run t j

-- the least output that differs in frame t of some run, with such a run; or none of them does
pub record IsFoundIn (pair : Pair) (t : ℕ) (d : Diff) : Type 0 where
  pub frame : d.frame ≡ t
  pub run : DiffersAtEnd pair t d.output d.run
  pub before : (i : ℕ) → i < d.output → AgreesAt pair t i

abbrev pub IsLeastIn : Pair → ℕ → Option Diff → Type 0
IsLeastIn pair t (Some d) = IsFoundIn pair t d
IsLeastIn pair t None = (i : ℕ) → i < outputs_of pair → AgreesAt pair t i

-- the outputs that the classes pair agree in every frame of every run
pub record HoldOutputs (pair : Pair) (classes : Classes) : Type 0 where
  pub places : length classes.least ≡ places_of pair
  pub agree : (t j : ℕ) → j < outputs_of pair → PairOutput pair classes j → AgreesAt pair t j
