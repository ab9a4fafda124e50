-- What a split by words leaves in memory, and where it adds no class.
use Rattle.std.proofs.Common.{◌≡◌, ◌∙◌, ◌<◌, ◌+◌, ℕ, Bool, List, ap, sym, subst, arith}
use Rattle.class_partition.specs.Classes.{Classes, least_of, ArePartition, HoldIn, class_count}
use Rattle.class_partition.specs.Steps.{classes_of}
use Rattle.class_partition.specs.Words.{bits_of, rows_of, split_of_words, splits_of, IsSplitByWords}
use Rattle.class_partition.proofs.Finer.{AreFiner, stay_whole, still_together}
use Rattle.class_partition.proofs.Kept.{IsKept}
use Rattle.class_partition.proofs.Partition.{needed_from_relative}
use Rattle.class_partition.proofs.WordSplitting.{word_split_is}
use Rattle.class_partition.proofs.WordRows.{Fit, bits_from_words, words_are_rows}

pub finer_by_words : (n : ℕ) (before : Classes) (words : List ℕ) (after : Classes) → ArePartition n before → IsSplitByWords n before words after → AreFiner n before after
finer_by_words n before words after is split = record { was = is; partition = split.partition; phase = split.phase; apart = λ p q lp lq h. ((split.together p q lp lq).0 h).0 }

module _ (n : ℕ) (least : List ℕ) (phase : List Bool) (words after : List ℕ) (is : ArePartition n (classes_of least phase)) (split : after ≡ (split_of_words n (classes_of least phase) words).least) where
  same : classes_of after phase ≡ split_of_words n (classes_of least phase) words
  same = ap (λ (l : List ℕ). classes_of l phase) split

  pub word_split_kept : (count added : ℕ) → count ≡ class_count n (classes_of least phase) → class_count n (classes_of after phase) ≡ class_count n (classes_of least phase) + added → IsKept after phase (count + added)
  word_split_kept count added counts more =
      let part : ArePartition n (classes_of after phase) = subst (ArePartition n) (sym same) (word_split_is n (classes_of least phase) words is).partition in
      subst (λ m. ArePartition m (classes_of after phase) × (count + added ≡ class_count m (classes_of after phase))) (sym part.least_len) (part, omega arith)

  pub word_split_splits : IsSplitByWords n (classes_of least phase) words (classes_of after phase)
  word_split_splits = subst (IsSplitByWords n (classes_of least phase) words) (sym same) (word_split_is n (classes_of least phase) words is)

  pub word_split_rows : Fit words → classes_of after phase ≡ splits_of n (classes_of least phase) (rows_of words)
  word_split_rows fit = same ∙ words_are_rows n (classes_of least phase) words is fit

  pub word_split_none : Fit words → (added : ℕ) → class_count n (classes_of after phase) ≡ class_count n (classes_of least phase) + added → added ≡ 0
      → (classes_of after phase ≡ classes_of least phase) × ((b : ℕ) → b < 64 → HoldIn n (classes_of least phase) (bits_of b words))
  word_split_none fit added more z =
      let before : Classes = classes_of least phase in
      let e : class_count n (classes_of after phase) ≡ class_count n before = omega arith in
      let s = word_split_splits in
      let finer = finer_by_words n before words (classes_of after phase) is s in (
        stay_whole n before (classes_of after phase) finer e,
        λ b lt p lp.
            let low = is.lower p lp in
            let r : ℕ = least_of before p in
            let lr : r < n = omega arith in
            let stay = still_together n before (classes_of after phase) finer e r p lr lp (is.fixed p lp) in
            needed_from_relative before (bits_of b words) p (bits_from_words before words fit r p ((s.together r p lr lp).0 stay).1 b (omega arith) lt),
      )
