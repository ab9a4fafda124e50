-- The split by words is the splits by its rows in turn.
use Rattle.std.proofs.Common.{◌≡◌, ◌==◌, ◌∙◌, ◌↔◌, ◌<◌, ◌≤◌, ◌^◌, ◌+◌, ℕ, zero, suc, Bool, true, false, cond, List, [], ◌∷◌, map, slice_index, refl, ap, sym, arith, ⊎_elim}
use Rattle.std.specs.Int.{bit_at, bit_not, w64}
use Rattle.std.specs.List.{range_with_len}
use Rattle.std.proofs.lemmas.Bool.{cases_lt}
use Rattle.std.proofs.lemmas.Bool.Decides.{nat_tests}
use Rattle.std.proofs.lemmas.Nat.Bits.{bit_at-zero, bit_at-lt, bit_at_not, same_from_bits_below}
use Rattle.circ_model.specs.Meaning.{bit, signed}
use Rattle.class_partition.specs.Classes.{Classes, phase_of, ArePartition, AreTogether, relative, split_of}
use Rattle.class_partition.specs.Words.{bits_of, rows_of, relative_word, split_of_words, splits_of}
use Rattle.class_partition.proofs.SameClasses.{same_classes}
use Rattle.class_partition.proofs.Splitting.{split_is}
use Rattle.class_partition.proofs.WordSplitting.{word_split_is}

-- places that are together and have equal bits, each with its phase, in the rows from a on
abbrev pub HaveEqualBits : (ℕ → List Bool) → ℕ → ℕ → Classes → ℕ → ℕ → Type 0
HaveEqualBits row a n classes p q = (b : ℕ) → a ≤ b → b < a + n → relative classes (row b) p ≡ relative classes (row b) q

pub record AreSplitByRows (row : ℕ → List Bool) (a n places : ℕ) (before after : Classes) : Type 0 where
  pub partition : ArePartition places after
  pub phase : after.phase ≡ before.phase
  pub together : (p q : ℕ) → p < places → q < places → AreTogether after p q ↔ (AreTogether before p q × HaveEqualBits row a n before p q)

pub splits_are : (row : ℕ → List Bool) (a n places : ℕ) (before : Classes) → ArePartition places before → AreSplitByRows row a n places before (splits_of places before (map row (range_with_len a n)))
unfolding splits_of
splits_are row a zero places before is = record { partition = is; phase = refl; together = λ p q lp lq. (λ h. (h, λ b low high. absurd (omega arith)), λ h. h.0) }
splits_are row a (suc n) places before is =
    let middle : Classes = split_of places before (row a) in
    let here = split_is places before (row a) is in
    let rest = splits_are row (a + 1) n places middle here.partition in
    record {
      partition = rest.partition;
      phase = rest.phase;
      together = λ p q lp lq. (
        λ h.
            let later = (rest.together p q lp lq).0 h in
            let now = (here.together p q lp lq).0 later.0 in
            (now.0, λ b low high. ⊎_elim (λ (more : a < b). later.1 b (omega arith) (omega arith)) (λ (less : b ≤ a). let e : b ≡ a = omega arith in rw e now.1) (cases_lt a b)),
        λ h. (rest.together p q lp lq).1 ((here.together p q lp lq).1 (h.0, h.1 a (omega arith) (omega arith)), λ b low high. h.1 b (omega arith) (omega arith)),
      );
    }

-- the bit of a place in a row of the words
bit_of_word : (b : ℕ) (words : List ℕ) (p : ℕ) → bit (bits_of b words) p ≡ (bit_at (slice_index words p) b == 1)
bit_of_word b [] p = sym (ap (λ (n : ℕ). n == 1) (bit_at-zero b))
bit_of_word b (w ∷ words) zero = refl
bit_of_word b (w ∷ words) (suc p) = bit_of_word b words p

complemented : (s : Bool) (w b : ℕ) → w < 2 ^ 64 → b < 64 → (bit_at (cond s (bit_not w64 w) w) b == 1) ≡ signed s (bit_at w b == 1)
complemented true w b small lt =
    let x = bit_at-lt w b in
    let m = bit_at_not w64 w b small lt in
    grind (arith, nat_tests)
complemented false w b small lt = refl

abbrev pub Fit : List ℕ → Type 0
Fit words = (p : ℕ) → slice_index words p < 2 ^ 64

relative_bit : (classes : Classes) (words : List ℕ) → Fit words → (p b : ℕ) → b < 64 → (bit_at (relative_word classes words p) b == 1) ≡ relative classes (bits_of b words) p
relative_bit classes words fit p b lt = complemented (phase_of classes p) (slice_index words p) b (fit p) lt ∙ ap (signed (phase_of classes p)) (sym (bit_of_word b words p))

same_bit : (x y : ℕ) → x < 2 → y < 2 → (x == 1) ≡ (y == 1) → x ≡ y
same_bit x y small less e = grind (arith, nat_tests)

within : (s : Bool) (w : ℕ) → w < 2 ^ 64 → cond s (bit_not w64 w) w < 2 ^ 64
within true w small = omega arith
within false w small = small

-- words are equal, each with its phase, where all their bits are
pub bits_from_words : (classes : Classes) (words : List ℕ) → Fit words → (p q : ℕ) → relative_word classes words p ≡ relative_word classes words q → HaveEqualBits (λ b. bits_of b words) 0 64 classes p q
bits_from_words classes words fit p q e b low lt = sym (relative_bit classes words fit p b lt) ∙ ap (λ (w : ℕ). bit_at w b == 1) e ∙ relative_bit classes words fit q b lt

pub words_from_bits : (classes : Classes) (words : List ℕ) → Fit words → (p q : ℕ) → HaveEqualBits (λ b. bits_of b words) 0 64 classes p q → relative_word classes words p ≡ relative_word classes words q
words_from_bits classes words fit p q h =
    let v : ℕ = relative_word classes words p in
    let w : ℕ = relative_word classes words q in
    same_from_bits_below 64 v w (within (phase_of classes p) (slice_index words p) (fit p)) (within (phase_of classes q) (slice_index words q) (fit q))
    (λ b lt. same_bit (bit_at v b) (bit_at w b) (bit_at-lt v b) (bit_at-lt w b) (relative_bit classes words fit p b lt ∙ h b (omega arith) lt ∙ sym (relative_bit classes words fit q b lt)))

pub words_are_rows : (places : ℕ) (classes : Classes) (words : List ℕ) → ArePartition places classes → Fit words → split_of_words places classes words ≡ splits_of places classes (rows_of words)
unfolding rows_of
words_are_rows places classes words is fit =
    let by_words = word_split_is places classes words is in
    let by_rows = splits_are (λ b. bits_of b words) 0 64 places classes is in
    same_classes places (split_of_words places classes words) (splits_of places classes (rows_of words)) by_words.partition by_rows.partition (by_words.phase ∙ sym by_rows.phase)
    (λ p q lp lq h. let w = (by_words.together p q lp lq).0 h in (by_rows.together p q lp lq).1 (w.0, bits_from_words classes words fit p q w.1))
    (λ p q lp lq h. let r = (by_rows.together p q lp lq).0 h in (by_words.together p q lp lq).1 (r.0, words_from_bits classes words fit p q r.1))
