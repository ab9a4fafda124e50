-- The plain way to the greatest correspondence for k = 1: all paths of two rows are tried, each spelled by a number.
use Rattle.std.specs.Prelude.{◌≡◌, ℕ, ◌+◌, ◌*◌, ◌<◌, List, [], length, Bool}
use Rattle.circ_model.specs.Meaning.{Pair, Path, IsRun, latches_of, places_of, row_at}
use Rattle.product_machine.specs.States.{MayStart}
use Rattle.circ_model.specs.Runs.{path_of_bits, bits_of}
use Rattle.class_partition.specs.Classes.{Classes, HoldIn}

-- the bits that decide all paths of two rows: a start bit for each latch, and two rows of inputs
abbrev pub free_bits : Pair → ℕ
free_bits pair = latches_of pair + 2 * length pair.left.inputs

-- the path of two rows that a number spells
abbrev pub numbered_path : Pair → ℕ → Path
numbered_path pair number = path_of_bits pair 2 (bits_of (free_bits pair) number)

-- the start bits agree with the resets, and in a tied pair those of partners with each other
abbrev pub StartsRun : Pair → List Bool → Type 0
StartsRun pair start = (i : ℕ) → i < length start → MayStart pair (record { start = start; inputs = [] }) i

-- neither row of this path divides a class: not the first, where the path is a run, and not the second, where the classes hold in the first
pub record LeavesWhole (pair : Pair) (classes : Classes) (number : ℕ) : Type 0 where
  pub first : IsRun pair (numbered_path pair number) → HoldIn (places_of pair) classes (row_at pair (numbered_path pair number) 0)
  pub second : HoldIn (places_of pair) classes (row_at pair (numbered_path pair number) 0) → HoldIn (places_of pair) classes (row_at pair (numbered_path pair number) 1)

-- rows with room for what a path of this pair has
pub record AreSized (pair : Pair) (start state inputs first second : List Bool) : Type 0 where
  pub start_size : length start ≡ latches_of pair
  pub state_size : length state ≡ latches_of pair
  pub input_size : length inputs ≡ length pair.left.inputs
  pub first_size : length first ≡ places_of pair
  pub second_size : length second ≡ places_of pair
