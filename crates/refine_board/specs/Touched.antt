-- Over which places a split goes.
use Rattle.std.specs.Prelude.{◌≡◌, ◌⊎◌, ◌<◌, ◌≤◌, ℕ, List, length, slice_index_or, Bool, false}
use Rattle.std.specs.List.{All, Contains}
use Rattle.refine_board.specs.declared.marks.Mark.{Mark}
use Rattle.refine_board.specs.declared.marks.Mark.TheVariants.{Open}

-- a place's mark is open, or the place is in the list
abbrev pub AreTouched : List Mark → List ℕ → Type 0
AreTouched marks touched = (q : ℕ) → (slice_index_or marks q Open ≡ Open) ⊎ Contains touched q

-- the list has places alone, and room for all of them; it has each place whose mark isn't open, unless more were touched than it has room for
pub record AreNoted (marks : List Mark) (touched : List ℕ) (over : Bool) (capacity : ℕ) : Type 0 where
  pub within : All (λ (p : ℕ). p < length marks) touched
  pub room : length marks ≤ capacity
  pub all : over ≡ false → AreTouched marks touched
