-- Splits by 64 rows at once: bit b of each place's word belongs to row b.
use Rattle.std.specs.Prelude.{◌≡◌, ◌↔◌, ◌==◌, ℕ, ◌<◌, List, [], ◌∷◌, map, Bool, slice_index, ◌&&◌, if◌then◌else◌}
use Rattle.std.specs.Int.{bit_at, bit_not, w64}
use Rattle.std.specs.List.{range_with_len, position_or_len}
use Rattle.class_partition.specs.Classes.{Classes, ArePartition, AreTogether, least_of, phase_of, split_of}

-- bit b of each word
abbrev pub bits_of : ℕ → List ℕ → List Bool
bits_of b words = map (λ word. bit_at word b == 1) words

-- the rows: bit 0 of each word, then bit 1, and so on
unfoldable pub rows_of : List ℕ → List (List Bool)
rows_of words = map (λ b. bits_of b words) (range_with_len 0 64)

-- a place's word, complemented by its phase
abbrev pub relative_word : Classes → List ℕ → ℕ → ℕ
relative_word classes words p = if phase_of classes p then bit_not w64 (slice_index words p) else slice_index words p

-- the split by words: a place's class begins at the first place that is together with it and has its word
abbrev pub goes_with_word : Classes → List ℕ → ℕ → ℕ → Bool
goes_with_word classes words p q = (least_of classes q == least_of classes p) && (relative_word classes words q == relative_word classes words p)

abbrev pub first_with_word : ℕ → Classes → List ℕ → ℕ → ℕ
first_with_word places classes words p = position_or_len (goes_with_word classes words p) (range_with_len 0 places)

abbrev pub split_of_words : ℕ → Classes → List ℕ → Classes
split_of_words places classes words = record { least = map (first_with_word places classes words) (range_with_len 0 places); phase = classes.phase }

-- places stay together exactly where their words, each with its phase, are equal
pub record IsSplitByWords (places : ℕ) (before : Classes) (words : List ℕ) (after : Classes) : Type 0 where
  pub partition : ArePartition places after
  pub phase : after.phase ≡ before.phase
  pub together : (p q : ℕ) → p < places → q < places → AreTogether after p q ↔ (AreTogether before p q × (relative_word before words p ≡ relative_word before words q))

-- the splits by rows in turn
unfoldable pub splits_of : ℕ → Classes → List (List Bool) → Classes
splits_of places classes [] = classes
splits_of places classes (row ∷ rows) = splits_of places (split_of places classes row) rows
