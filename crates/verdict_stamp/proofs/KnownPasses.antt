-- A pair of the greatest correspondence for j frames passes for k, where j is no greater.
use Rattle.std.proofs.Common.{◌↔◌, Bool, true, IsTrue, ◌/◌, ◌≡◌, ◌<◌, ◌≤◌, ◌+◌, ◌-◌, ℕ, zero, suc, false, List, subst, sym, arith}
use Rattle.circ_model.specs.Meaning.{Pair, places_of, row_at, signed}
use Rattle.circ_model.specs.Correspondence.{Corresponds}
use Rattle.circ_model.proofs.Greatest.{greatest_holds, grows, may_split_agrees}
use Rattle.circ_model.proofs.Literals.{half_literal}
use Rattle.class_partition.specs.Classes.{Classes, ArePartition, IsNeeded, KeepsGreatest, Pairs, Passes, least_of, needed, phase_of}
use Rattle.class_partition.proofs.Partition.{may_split_after}
use Rattle.class_partition.specs.declared.classes.Needed.{Needed}
use Rattle.verdict_stamp.specs.declared.used.Used.TheVariants.{Known, Pairs as ByPairs}
use Rattle.verdict_stamp.specs.Known.{AreKnown, ArePaired, IsBelow, KnownClasses, known_of}
use Rattle.verdict_stamp.specs.Versions.{IsKnown, IsPassed, IsVersion, Standing}

-- n frames more, one by one
grown : (pair : Pair) (j n a b : ℕ) → Corresponds pair j a b → Corresponds pair (j + n) a b
grown pair j zero a b h = let e : j ≡ j + 0 = omega arith in subst (λ (m : ℕ). Corresponds pair m a b) e h
grown pair j (suc n) a b h = let e : j + n + 1 ≡ j + suc n = omega arith in subst (λ (m : ℕ). Corresponds pair m a b) e (grows pair (j + n) a b (grown pair j n a b h))

pub greatest_grows : (pair : Pair) (j k a b : ℕ) → j ≤ k → Corresponds pair j a b → Corresponds pair k a b
greatest_grows pair j k a b le h = let e : j + (k - j) ≡ k = omega arith in subst (λ (m : ℕ). Corresponds pair m a b) e (grown pair j (k - j) a b h)

-- it holds in every frame of every run; and after k frames in which the classes hold, since the row of that frame may split
pub known_passes : (pair : Pair) (j k : ℕ) (classes : Classes) (m : ℕ) → j ≤ k → KeepsGreatest pair k classes → IsKnown pair j classes m → Passes pair k classes m
known_passes pair j k classes m le keeps known =
    let a : ℕ = (needed classes m).0 in
    let b : ℕ = (needed classes m).1 in
    record {
      base = λ run is len t lt. greatest_holds pair j a b known run is t (omega (arith, len));
      step = λ path is len hold. may_split_agrees pair k (row_at pair path k) (may_split_after pair k classes path keeps is (omega (arith, len)) hold) a b (greatest_grows pair j k a b le known);
    }

not_pairs : (j : ℕ) (pairs : List Needed) → Known j ≡ ByPairs pairs → ⊥
not_pairs j pairs e = cc

same_known : (i j : ℕ) → Known i ≡ Known j → i ≡ j
same_known i j e = cc

-- both literals of a needed pair are of the version's netlists
pub literals_within : (places : ℕ) (classes : Classes) (m : ℕ) → ArePartition places classes → m < places → ((needed classes m).0 / 2 < places) × ((needed classes m).1 / 2 < places)
literals_within places classes m is lt =
    let low = is.lower m lt in (
      subst (λ (n : ℕ). n < places) (sym (half_literal (least_of classes m) false)) (omega arith),
      subst (λ (n : ℕ). n < places) (sym (half_literal m (signed (phase_of classes (least_of classes m)) (phase_of classes m)))) lt,
    )

-- so known classes that pair them tell that the pair passes
pub known_is : (known : KnownClasses) (v : Standing) (m : ℕ) → AreKnown known → IsVersion v → IsBelow known v → IsNeeded (places_of v.pair) v.classes m → ArePaired known v m → IsPassed (known_of known v m)
known_is known v m are is below need paired =
    let within = literals_within (places_of v.pair) v.classes m is.partition need.0 in
    let there : IsKnown v.pair known.k v.classes m = subst (λ (p : Pair). IsKnown p known.k v.classes m) below.0 (are.correspond (needed v.classes m).0 (needed v.classes m).1
    (subst (λ (p : Pair). (needed v.classes m).0 / 2 < places_of p) (sym below.0) within.0) (subst (λ (p : Pair). (needed v.classes m).1 / 2 < places_of p) (sym below.0) within.1) paired) in
    record {
      is_needed = need;
      passes = known_passes v.pair known.k v.k v.classes m below.1 is.keeps there;
      known = λ j e. subst (λ (n : ℕ). (0 < n) × (n ≤ v.k) × IsKnown v.pair n v.classes m) (same_known known.k j e) (are.some, below.1, there);
      listed = λ pairs e. absurd (not_pairs known.k pairs e);
    }

-- the answer says so of the two literals
pub paired_by : (known : KnownClasses) (v : Standing) (m : ℕ) (classes : Classes) (lits : ℕ × ℕ) (found : Bool) → classes ≡ known.classes → lits ≡ needed v.classes m → found ≡ true → (IsTrue found ↔ Pairs classes lits.0 lits.1)
    → ArePaired known v m
paired_by known v m classes lits found ec el ef says =
    subst (λ (c : Classes). Pairs c (needed v.classes m).0 (needed v.classes m).1) ec
    (subst (λ (p : ℕ × ℕ). Pairs classes p.0 p.1) el (says.0 ef))
