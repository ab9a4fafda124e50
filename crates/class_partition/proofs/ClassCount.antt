-- How the number of classes grows with the splits.
use Rattle.std.proofs.Common.{◌≡◌, ◌∙◌, ◌<◌, ◌≤◌, ◌⊎◌, ℕ, ◌+◌, Bool, true, false, List, [], ◌∷◌, length, refl, ap, sym, arith, true≢false, inl, inr, ⊎_elim, eq-eqb, ne_eqb, eqb-true}
use Rattle.std.proofs.lemmas.Bool.{eqb-false}
use Rattle.class_partition.specs.Classes.{Classes, least_of, ArePartition, relative, Divides, IsSplit, is_least, class_count, AreSplits}
use Rattle.class_partition.proofs.Counting.{counted_le, counted_lt, counted_most, counted_more}

-- places below the size have their least place below it, together with them
least_below : (places : ℕ) (classes : Classes) → ArePartition places classes → (p : ℕ) → p < places → least_of classes p < places
least_below places classes is p lt = let low = is.lower p lt in omega arith

-- a class's least place stays the least of its part
least_stays : (places : ℕ) (before : Classes) (bits : List Bool) (after : Classes) → ArePartition places before → IsSplit places before bits after
    → (p : ℕ) → p < places → is_least before p ≡ true → is_least after p ≡ true
least_stays places before bits after is split p lt on =
    let e : least_of before p ≡ p = eqb-true (least_of before p) p on in
    let low : least_of after p ≤ p = split.partition.lower p lt in
    let below : least_of after p < places = omega arith in
    let was : least_of before (least_of after p) ≡ least_of before p = ((split.together (least_of after p) p below lt).0 (split.partition.fixed p lt)).0 in
    let back : least_of before (least_of after p) ≤ least_of after p = is.lower (least_of after p) below in
    eq-eqb (least_of after p) p (omega arith)

pub count_grows : (places : ℕ) (before : Classes) (bits : List Bool) (after : Classes) → ArePartition places before → IsSplit places before bits after → class_count places before ≤ class_count places after
count_grows places before bits after is split = counted_le (is_least before) (is_least after) 0 places (λ p low high. least_stays places before bits after is split p (omega arith))

-- a place that differs from its class's least place makes a class more
pub one_more : (places : ℕ) (before : Classes) (bits : List Bool) (after : Classes) → ArePartition places before → IsSplit places before bits after
    → (p : ℕ) → p < places → (relative before bits (least_of before p) ≡ relative before bits p → ⊥) → class_count places before < class_count places after
one_more places before bits after is split p lt differ =
    let m : ℕ = least_of after p in
    let low : m ≤ p = split.partition.lower p lt in
    let below : m < places = omega arith in
    let fixed : least_of after m ≡ m = split.partition.fixed p lt in
    let was = (split.together m p below lt).0 fixed in
    counted_lt (is_least before) (is_least after) 0 places m (λ q l h. least_stays places before bits after is split q (omega arith)) (omega arith) (omega arith)
    (ne_eqb (least_of before m) m (λ (e : least_of before m ≡ m). differ (ap (relative before bits) (sym was.0 ∙ e) ∙ was.1))) (eq-eqb (least_of after m) m fixed)

pub same_or_not : (a b : Bool) → (a ≡ b) ⊎ (a ≡ b → ⊥)
same_or_not true true = inl refl
same_or_not true false = inr true≢false
same_or_not false true = inr (λ e. true≢false (sym e))
same_or_not false false = inl refl

pub count_rises : (places : ℕ) (before : Classes) (bits : List Bool) (after : Classes) → ArePartition places before → IsSplit places before bits after → Divides places before bits → class_count places before < class_count places after
count_rises places before bits after is split (p, q, lp, lq, together, differ) =
    ⊎_elim
    (λ (same : relative before bits (least_of before p) ≡ relative before bits p).
    one_more places before bits after is split q lq (λ (e : relative before bits (least_of before q) ≡ relative before bits q). differ (sym same ∙ ap (relative before bits) together ∙ e)))
    (λ (apart : relative before bits (least_of before p) ≡ relative before bits p → ⊥). one_more places before bits after is split p lp apart)
    (same_or_not (relative before bits (least_of before p)) (relative before bits p))

-- a class more shows two places that the row takes apart
pub divides_from_count : (places : ℕ) (before : Classes) (bits : List Bool) (after : Classes) → ArePartition places before → IsSplit places before bits after → class_count places before < class_count places after → Divides places before bits
divides_from_count places before bits after is split more =
    let found = counted_more (is_least before) (is_least after) 0 places more in
    let m : ℕ = found.0 in
    let below : m < places = omega (arith, found.2) in
    let new : least_of before m ≡ m → ⊥ = eqb-false (least_of before m) m found.3 in
    let now : least_of after m ≡ m = eqb-true (least_of after m) m found.4 in
    let r : ℕ = least_of before m in
    let low : r ≤ m = is.lower m below in
    let r_below : r < places = omega arith in (
      r,
      m,
      r_below,
      below,
      is.fixed m below,
      λ (e : relative before bits r ≡ relative before bits m).
          let both : least_of after r ≡ least_of after m = (split.together r m r_below below).1 (is.fixed m below, e) in
          let r_low : least_of after r ≤ r = split.partition.lower r r_below in
          new (omega arith),
    )

pub count_most : (places : ℕ) (classes : Classes) → class_count places classes ≤ places
count_most places classes = counted_most (is_least classes) 0 places

pub count_positive : (places : ℕ) (classes : Classes) → ArePartition places classes → 0 < places → 0 < class_count places classes
count_positive places classes is some =
    let low = is.lower 0 some in
    let lt = counted_lt (λ _. false) (is_least classes) 0 places 0 (λ p l h e. absurd (true≢false (sym e))) (omega arith) (omega arith) refl (eq-eqb (least_of classes 0) 0 (omega arith)) in
    omega arith

-- the number of splits
splits_counted : (places : ℕ) (before : Classes) (rows : List (List Bool)) (after : Classes) → ArePartition places before → AreSplits places before rows after → length rows + class_count places before ≤ class_count places after
splits_counted places before [] after is e = let same = ap (class_count places) e in omega arith
splits_counted places before (bits ∷ rest) after is (middle, split, divides, further) =
    let here = count_rises places before bits middle is split divides in
    let later = splits_counted places middle rest after split.partition further in
    omega arith

pub splits_below : (places : ℕ) (before : Classes) (rows : List (List Bool)) (after : Classes) → ArePartition places before → 0 < places → AreSplits places before rows after → length rows + 1 ≤ places
splits_below places before rows after is some splits =
    let h = splits_counted places before rows after is splits in
    let low = count_positive places before is some in
    let high = count_most places after in
    omega arith
