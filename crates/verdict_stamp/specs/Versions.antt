-- Versions of the classes, the rows that split them, and the needed pairs that passed under one.
use Rattle.std.specs.Prelude.{◌≡◌, ℕ, ◌-◌, ◌<◌, ◌≤◌, List, length, Bool}
use Rattle.circ_model.specs.Meaning.{Pair, places_of}
use Rattle.circ_model.specs.Runs.{phases}
use Rattle.circ_model.specs.Correspondence.{Corresponds, MaySplit}
use Rattle.class_partition.specs.Classes.{Classes, ArePartition, IsNeeded, KeepsGreatest, Passes, class_count, needed, one_class}
use Rattle.frame_graph.specs.Inductions.{Induction}
use Rattle.pair_sweep.specs.Sweeps.{Extent}
use Rattle.frame_unroll.specs.declared.question.Question.{Question}
use Rattle.frame_unroll.specs.Unrolled.{Unrolling, after_classes, from_reset, asks}
use Rattle.class_partition.specs.declared.classes.Needed.{Needed}
use Rattle.used_pairs.specs.Lists.{PassesBy}
use Rattle.verdict_stamp.specs.declared.used.Used.{Used}
use Rattle.verdict_stamp.specs.declared.used.Used.TheVariants.{Known, Pairs}

-- classes of a pair's places, for induction over k frames, and how many splits they went through
pub record Standing : Type 0 where
  pub pair : Pair
  pub k : ℕ
  pub classes : Classes
  pub number : ℕ

-- classes by the phases that separate no pair of the greatest correspondence; each split added a class at least
pub record IsVersion (v : Standing) : Type 0 where
  pub some : 0 < v.k
  pub few : v.k ≤ 16
  pub partition : ArePartition (places_of v.pair) v.classes
  pub phased : v.classes.phase ≡ phases v.pair
  pub keeps : KeepsGreatest v.pair v.k v.classes
  pub below : v.number < class_count (places_of v.pair) v.classes

-- one class of all places
abbrev pub first_version : Pair → ℕ → Standing
first_version pair k = record { pair = pair; k = k; classes = one_class (phases pair); number = 0 }

-- a row of a pair's places, found by questions over k frames
pub record Split : Type 0 where
  pub pair : Pair
  pub k : ℕ
  pub bits : List Bool

-- it separates no pair of the greatest correspondence
pub record IsVector (x : Split) : Type 0 where
  pub size : length x.bits ≡ places_of x.pair
  pub may : MaySplit x.pair x.k x.bits

-- the frames of a version's two questions: k from reset, and k + 1 from any state, in all but the last of which its classes hold
abbrev pub base_of : Standing → Unrolling
base_of v = from_reset v.pair v.k

abbrev pub step_of : Standing → Unrolling
step_of v = after_classes v.pair v.k v.classes

-- and the questions of a place and its class's least place: whether they differ in some frame from reset, or in the last frame
abbrev pub base_question : Standing → ℕ → Question
base_question v m = asks (needed v.classes m).0 (needed v.classes m).1 0 (v.k - 1)

abbrev pub step_question : Standing → ℕ → Question
step_question v m = asks (needed v.classes m).0 (needed v.classes m).1 v.k v.k

-- a place that passed under a version, and what that rests on
pub record Passed : Type 0 where
  pub version : Standing
  pub member : ℕ
  pub used : Used

-- a place and its class's least place, at their relative phase, are a pair of the greatest correspondence for induction over j frames
abbrev pub IsKnown : Pair → ℕ → Classes → ℕ → Type 0
IsKnown pair j classes m = Corresponds pair j (needed classes m).0 (needed classes m).1

-- it passes; where it rests on what is known for j frames, these are some and no more than the version's; where on pairs, by them
pub record IsPassed (w : Passed) : Type 0 where
  pub is_needed : IsNeeded (places_of w.version.pair) w.version.classes w.member
  pub passes : Passes w.version.pair w.version.k w.version.classes w.member
  pub known : (j : ℕ) → w.used ≡ Known j → (0 < j) × (j ≤ w.version.k) × IsKnown w.version.pair j w.version.classes w.member
  pub listed : (pairs : List Needed) → w.used ≡ Pairs pairs → PassesBy w.version.pair w.version.k w.version.classes.phase pairs (needed w.version.classes w.member)

-- the induction that a version's pairs are proved by
abbrev pub induction_of : Standing → Induction
induction_of v = record { pair = v.pair; k = v.k; classes = v.classes }

-- and the pair and k alone
abbrev pub extent_of : Standing → Extent
extent_of v = record { pair = v.pair; k = v.k }

-- frames that were made are these
abbrev pub IsOf : Unrolling → Unrolling → Type 0
IsOf frames made = made ≡ frames
