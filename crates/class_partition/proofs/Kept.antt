-- What a partition in memory keeps: its lists are a partition, and its count is that of the classes.
use Rattle.std.proofs.Common.{◌≡◌, ◌∙◌, ◌≤◌, ℕ, zero, suc, ◌+◌, Bool, false, List, length, replicate, refl, ap, sym, subst, arith, slice_index, eqb-true}
use Rattle.std.proofs.lemmas.List.{length-replicate}
use Rattle.class_partition.specs.Classes.{Classes, least_of, ArePartition, HoldIn, is_least, class_count, split_of}
use Rattle.class_partition.specs.Steps.{classes_of}
use Rattle.class_partition.proofs.Counting.{counted, counted_le, next, one}
use Rattle.class_partition.proofs.Splitting.{split_is}
use Rattle.class_partition.proofs.Unsplit.{unsplit_holds, unsplit_stays}

abbrev pub IsKept : List ℕ → List Bool → ℕ → Type 0
IsKept least phase count = ArePartition (length least) (classes_of least phase) × (count ≡ class_count (length least) (classes_of least phase))

zero_at : (n p : ℕ) → slice_index (replicate n 0) p ≡ 0
zero_at zero p = refl
zero_at (suc n) zero = refl
zero_at (suc n) (suc p) = zero_at n p

never : (a n : ℕ) → counted (λ _. false) a n ≡ 0
never a zero = refl
never a (suc n) = next (λ _. false) a n ∙ (let rest = never (a + 1) n in let e : one false + counted (λ _. false) (a + 1) n ≡ 0 = omega arith in e)

pub count_none : (n : ℕ) (phase : List Bool) → n ≡ 0 → class_count n (classes_of (replicate n 0) phase) ≡ 0
count_none n phase e = rw e refl

-- only place 0 is least in one class
pub count_one : (n : ℕ) (phase : List Bool) → (n ≡ 0 → ⊥) → class_count n (classes_of (replicate n 0) phase) ≡ 1
count_one zero phase some = absurd (some refl)
count_one (suc n) phase some =
    let c : Classes = classes_of (replicate (suc n) 0) phase in
    let rest : counted (is_least c) 1 n ≤ counted (λ _. false) 1 n = counted_le (is_least c) (λ _. false) 1 n (λ p low high on. let z = zero_at (suc n) p in let e = eqb-true (least_of c p) p on in absurd (omega arith)) in
    let none = never 1 n in
    let z : counted (is_least c) 1 n ≡ 0 = omega arith in
    next (is_least c) 0 n ∙ ap (λ k. 1 + k) z

pub one_kept : (n count : ℕ) (phase : List Bool) → length phase ≡ n → count ≡ class_count n (classes_of (replicate n 0) phase) → IsKept (replicate n 0) phase count
one_kept n count phase len counts = subst (λ m. ArePartition m (classes_of (replicate n 0) phase) × (count ≡ class_count m (classes_of (replicate n 0) phase))) (sym (length-replicate n 0)) (
  record { least_len = length-replicate n 0; phase_len = len; lower = λ p lt. let z = zero_at n p in omega arith; fixed = λ p lt. zero_at n (slice_index (replicate n 0) p) ∙ sym (zero_at n p) },
  counts,
)

-- what a split leaves
pub split_kept : (n : ℕ) (least : List ℕ) (phase : List Bool) (row : List Bool) (after : List ℕ) (count added : ℕ) → ArePartition n (classes_of least phase) → after ≡ (split_of n (classes_of least phase) row).least
    → count ≡ class_count n (classes_of least phase) → class_count n (classes_of after phase) ≡ class_count n (classes_of least phase) + added → IsKept after phase (count + added)
split_kept n least phase row after count added is split counts more =
    let same : classes_of after phase ≡ split_of n (classes_of least phase) row = ap (λ (l : List ℕ). classes_of l phase) split in
    let part : ArePartition n (classes_of after phase) = subst (ArePartition n) (sym same) (split_is n (classes_of least phase) row is).partition in
    let len : length after ≡ n = part.least_len in
    subst (λ m. ArePartition m (classes_of after phase) × (count + added ≡ class_count m (classes_of after phase))) (sym len) (part, omega arith)

-- and where it adds no class
pub split_none : (n : ℕ) (least : List ℕ) (phase : List Bool) (row : List Bool) (after : List ℕ) (added : ℕ) → ArePartition n (classes_of least phase) → after ≡ (split_of n (classes_of least phase) row).least
    → class_count n (classes_of after phase) ≡ class_count n (classes_of least phase) + added → added ≡ 0 → (classes_of after phase ≡ classes_of least phase) × HoldIn n (classes_of least phase) row
split_none n least phase row after added is split more z =
    let same : classes_of after phase ≡ split_of n (classes_of least phase) row = ap (λ (l : List ℕ). classes_of l phase) split in
    let e : class_count n (split_of n (classes_of least phase) row) ≡ class_count n (classes_of least phase) = ap (class_count n) (sym same) ∙ more ∙ omega arith in
    (same ∙ unsplit_stays n (classes_of least phase) row is e, unsplit_holds n (classes_of least phase) row is e)
