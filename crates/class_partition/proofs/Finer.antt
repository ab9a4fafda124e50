-- Classes that only take places apart, and how many classes that makes.
use Rattle.std.proofs.Common.{◌≡◌, ◌∙◌, ◌<◌, ◌≤◌, ℕ, true, ap, sym, arith, ⊎_elim, eq-eqb, ne_eqb, eqb-true}
use Rattle.std.proofs.lemmas.Bool.{cases_eq, eqb-false}
use Rattle.class_partition.specs.Classes.{Classes, least_of, ArePartition, AreTogether, is_least, class_count}
use Rattle.class_partition.proofs.Counting.{counted_lt, counted_more}
use Rattle.class_partition.proofs.SameClasses.{same_classes}

-- both are partitions with the same phases, and what is together after was together before
pub record AreFiner (n : ℕ) (before after : Classes) : Type 0 where
  pub was : ArePartition n before
  pub partition : ArePartition n after
  pub phase : after.phase ≡ before.phase
  pub apart : (p q : ℕ) → p < n → q < n → AreTogether after p q → AreTogether before p q

least_stays : (n : ℕ) (before after : Classes) → AreFiner n before after → (p : ℕ) → p < n → is_least before p ≡ true → is_least after p ≡ true
least_stays n before after f p lt on =
    let e : least_of before p ≡ p = eqb-true (least_of before p) p on in
    let low : least_of after p ≤ p = f.partition.lower p lt in
    let same : AreTogether before (least_of after p) p = f.apart (least_of after p) p (omega arith) lt (f.partition.fixed p lt) in
    let back : least_of before (least_of after p) ≤ least_of after p = f.was.lower (least_of after p) (omega arith) in
    eq-eqb (least_of after p) p (omega arith)

-- a place that leaves its class's least place makes a class more
pub one_more : (n : ℕ) (before after : Classes) → AreFiner n before after → (p : ℕ) → p < n → (AreTogether after (least_of before p) p → ⊥) → class_count n before < class_count n after
one_more n before after f p lt leaves =
    let m : ℕ = least_of after p in
    let low : m ≤ p = f.partition.lower p lt in
    let fixed : least_of after m ≡ m = f.partition.fixed p lt in
    let was : AreTogether before m p = f.apart m p (omega arith) lt fixed in
    counted_lt (is_least before) (is_least after) 0 n m (λ q l h. least_stays n before after f q (omega arith)) (omega arith) (omega arith)
    (ne_eqb (least_of before m) m (λ (e : least_of before m ≡ m). leaves (ap (least_of after) (sym was ∙ e) ∙ fixed))) (eq-eqb (least_of after m) m fixed)

-- so where there are as many, no place leaves its class
stay_together : (n : ℕ) (before after : Classes) → AreFiner n before after → class_count n after ≡ class_count n before → (p : ℕ) → p < n → AreTogether after (least_of before p) p
stay_together n before after f e p lt = ⊎_elim (λ (same : AreTogether after (least_of before p) p). same) (λ (leaves : AreTogether after (least_of before p) p → ⊥). let more = one_more n before after f p lt leaves in absurd (omega arith)) (cases_eq (least_of after (least_of before p)) (least_of after p))

pub still_together : (n : ℕ) (before after : Classes) → AreFiner n before after → class_count n after ≡ class_count n before → (p q : ℕ) → p < n → q < n → AreTogether before p q → AreTogether after p q
still_together n before after f e p q lp lq h = sym (stay_together n before after f e p lp) ∙ ap (least_of after) h ∙ stay_together n before after f e q lq

pub stay_whole : (n : ℕ) (before after : Classes) → AreFiner n before after → class_count n after ≡ class_count n before → after ≡ before
stay_whole n before after f e = same_classes n after before f.partition f.was f.phase f.apart (still_together n before after f e)

-- and where there are more, two places leave each other
pub two_apart : (n : ℕ) (before after : Classes) → AreFiner n before after → class_count n before < class_count n after → (p q : ℕ) × (p < n) × (q < n) × AreTogether before p q × (AreTogether after p q → ⊥)
two_apart n before after f more =
    let found = counted_more (is_least before) (is_least after) 0 n more in
    let m : ℕ = found.0 in
    let lt : m < n = omega (arith, found.2) in
    let new : least_of before m ≡ m → ⊥ = eqb-false (least_of before m) m found.3 in
    let now : least_of after m ≡ m = eqb-true (least_of after m) m found.4 in
    let r : ℕ = least_of before m in
    let low : r ≤ m = f.was.lower m lt in
    let below : r < n = omega arith in (
      r,
      m,
      below,
      lt,
      f.was.fixed m lt,
      λ (h : AreTogether after r m). let after_low : least_of after r ≤ r = f.partition.lower r below in new (omega arith),
    )
