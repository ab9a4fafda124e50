-- Splits by eight words for each place, one after another.
use Rattle.std.specs.Prelude.{ℕ, zero, suc, List}
use Rattle.class_partition.specs.Classes.{Classes}
use Rattle.class_partition.specs.Words.{rows_of, splits_of}
use Rattle.sim_words.specs.Wide.{stripe}

-- the splits by words 0 to n - 1 of each place's eight, in turn
unfoldable pub wide_splits : ℕ → ℕ → Classes → List ℕ → Classes
wide_splits zero places classes words = classes
wide_splits (suc j) places classes words = splits_of places (wide_splits j places classes words) (rows_of (stripe places j words))
