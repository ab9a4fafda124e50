-- Partitions of the places into classes with phases, and their splits.
use Rattle.std.specs.Prelude.{◌≡◌, ◌≢◌, ◌↔◌, ◌==◌, ℕ, Option, Some, None, ◌+◌, ◌/◌, ◌<◌, ◌≤◌, List, [], ◌∷◌, length, map, replicate, Bool, false, slice_index, count_by, not, ◌&&◌}
use Rattle.std.specs.List.{range_with_len, position_or_len}
use Rattle.circ_model.specs.Meaning.{Pair, Path, IsPath, IsRun, bit, signed, literal, places_of, row_at}
use Rattle.circ_model.specs.Correspondence.{HoldsIn, Corresponds}
use Rattle.class_partition.specs.declared.classes.Needed.{Needed}

-- for each place the least place of its class, and its phase
pub record Classes : Type 0 where
  pub least : List ℕ
  pub phase : List Bool

abbrev pub least_of : Classes → ℕ → ℕ
least_of classes p = slice_index classes.least p

abbrev pub phase_of : Classes → ℕ → Bool
phase_of classes p = bit classes.phase p

pub record ArePartition (places : ℕ) (classes : Classes) : Type 0 where
  pub least_len : length classes.least ≡ places
  pub phase_len : length classes.phase ≡ places
  pub lower : (p : ℕ) → p < places → least_of classes p ≤ p
  pub fixed : (p : ℕ) → p < places → least_of classes (least_of classes p) ≡ least_of classes p

abbrev pub AreTogether : Classes → ℕ → ℕ → Type 0
AreTogether classes p q = least_of classes p ≡ least_of classes q

-- two literals are paired where their places are together and their phases, with their signs, are equal
abbrev pub Pairs : Classes → ℕ → ℕ → Type 0
Pairs classes a b = AreTogether classes (a / 2) (b / 2) × HoldsIn classes.phase (a, b)

-- a place with its class's least place, at their relative phase; needed where these are two places
abbrev pub needed : Classes → ℕ → ℕ × ℕ
needed classes p = (literal (least_of classes p) false, literal p (signed (phase_of classes (least_of classes p)) (phase_of classes p)))

abbrev pub IsNeeded : ℕ → Classes → ℕ → Type 0
IsNeeded places classes p = (p < places) × (least_of classes p ≢ p)

abbrev pub needed_pairs : ℕ → Classes → List (ℕ × ℕ)
needed_pairs places classes = map (needed classes) (range_with_len 0 places)

-- the needed pairs hold in a row (and so does a least place with itself)
abbrev pub HoldIn : ℕ → Classes → List Bool → Type 0
HoldIn places classes row = (p : ℕ) → p < places → HoldsIn row (needed classes p)

-- a place's bit, complemented by its phase
abbrev pub relative : Classes → List Bool → ℕ → Bool
relative classes row p = signed (phase_of classes p) (bit row p)

abbrev pub Divides : ℕ → Classes → List Bool → Type 0
Divides places classes row = (p q : ℕ) × (p < places) × (q < places) × AreTogether classes p q × (relative classes row p ≢ relative classes row q)

-- what a row makes of classes: places stay together exactly where their bits, each with its phase, are equal
pub record IsSplit (places : ℕ) (before : Classes) (row : List Bool) (after : Classes) : Type 0 where
  pub partition : ArePartition places after
  pub phase : after.phase ≡ before.phase
  pub together : (p q : ℕ) → p < places → q < places → AreTogether after p q ↔ (AreTogether before p q × (relative before row p ≡ relative before row q))

abbrev pub is_least : Classes → ℕ → Bool
is_least classes p = least_of classes p == p

abbrev pub class_count : ℕ → Classes → ℕ
class_count places classes = count_by (λ b. b) (map (is_least classes) (range_with_len 0 places))

abbrev pub one_class : List Bool → Classes
one_class phase = record { least = replicate (length phase) 0; phase = phase }

-- the classes separate no pair of the greatest correspondence
abbrev pub KeepsGreatest : Pair → ℕ → Classes → Type 0
KeepsGreatest pair k classes = (a b : ℕ) → Corresponds pair k a b → Pairs classes a b

-- a place passes with its class's least place: in the first k frames of every run, and after k frames in which the classes hold
pub record Passes (pair : Pair) (k : ℕ) (classes : Classes) (p : ℕ) : Type 0 where
  pub base : (run : Path) → IsRun pair run → length run.inputs ≡ k → (t : ℕ) → t < k → HoldsIn (row_at pair run t) (needed classes p)
  pub step : (path : Path) → IsPath pair path → length path.inputs ≡ k + 1
      → ((t : ℕ) → t < k → HoldIn (places_of pair) classes (row_at pair path t)) → HoldsIn (row_at pair path k) (needed classes p)

-- the classes are those of the greatest correspondence
pub record AreOfGreatest (pair : Pair) (k : ℕ) (classes : Classes) : Type 0 where
  pub keeps : KeepsGreatest pair k classes
  pub reaches : (a b : ℕ) → a / 2 < places_of pair → b / 2 < places_of pair → Pairs classes a b → Corresponds pair k a b

-- the classes after splitting by these rows in turn, each of which divides a class
abbrev pub AreSplits : ℕ → Classes → List (List Bool) → Classes → Type 0
AreSplits places before [] after = after ≡ before
AreSplits places before (bits ∷ rest) after = (middle : Classes) × IsSplit places before bits middle × Divides places before bits × AreSplits places middle rest after

-- no row divides a class: of the first k frames of the runs with k rows, and after k frames in which the classes hold
pub record IsStable (pair : Pair) (k : ℕ) (classes : Classes) : Type 0 where
  pub base : (run : Path) → IsRun pair run → length run.inputs ≡ k → (t : ℕ) → t < k → HoldIn (places_of pair) classes (row_at pair run t)
  pub step : (path : Path) → IsPath pair path → length path.inputs ≡ k + 1
      → ((t : ℕ) → t < k → HoldIn (places_of pair) classes (row_at pair path t)) → HoldIn (places_of pair) classes (row_at pair path k)

-- the split as a function: a place's class begins at the first place that is together with it and has its bit
abbrev pub goes_with : Classes → List Bool → ℕ → ℕ → Bool
goes_with classes row p q = (least_of classes q == least_of classes p) && not (signed (relative classes row q) (relative classes row p))

abbrev pub first_with : ℕ → Classes → List Bool → ℕ → ℕ
first_with places classes row p = position_or_len (goes_with classes row p) (range_with_len 0 places)

abbrev pub split_of : ℕ → Classes → List Bool → Classes
split_of places classes row = record { least = map (first_with places classes row) (range_with_len 0 places); phase = classes.phase }

-- the needed pair with the least member at or past a place, or none
abbrev pub IsNextNeeded : Classes → ℕ → Option Needed → Type 0
IsNextNeeded classes from (Some p) =
    (from ≤ p.member) × IsNeeded (length classes.least) classes p.member × (p.rep ≡ least_of classes p.member)
    × ((q : ℕ) → from ≤ q → q < p.member → least_of classes q ≡ q)
IsNextNeeded classes from None = (q : ℕ) → from ≤ q → q < length classes.least → least_of classes q ≡ q
