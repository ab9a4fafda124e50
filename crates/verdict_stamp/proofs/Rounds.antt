-- A round of proofs: what a vector that adds no class would say, and what no class added means.
use Rattle.std.proofs.Common.{◌≡◌, ◌∙◌, ◌<◌, ◌≤◌, ◌+◌, ℕ, ap, sym, subst, arith, ⊎_elim}
use Rattle.std.proofs.lemmas.Bool.{cases_lt}
use Rattle.circ_model.specs.Meaning.{places_of}
use Rattle.class_partition.specs.Classes.{Classes, AreOfGreatest, HoldIn, IsNeeded, Passes, class_count, needed}
use Rattle.class_partition.proofs.ClassCount.{count_most}
use Rattle.class_partition.proofs.Partition.{exact}
use Rattle.verdict_stamp.specs.declared.prover.Proof.{Proof}
use Rattle.verdict_stamp.specs.declared.prover.Proof.TheVariants.{Splits}
use Rattle.verdict_stamp.specs.Proofs.{IsProof}
use Rattle.verdict_stamp.specs.Versions.{Standing, IsVersion, Split}
use Rattle.verdict_stamp.proofs.Proving.{not_both}

-- a vector that separates a pair of these classes divides them
pub divides : (v : Standing) (m : ℕ) (x : Split) (p : Proof) (classes : Classes) → p ≡ Splits x → IsProof v m p → IsNeeded (places_of v.pair) v.classes m → classes ≡ v.classes → HoldIn (places_of v.pair) classes x.bits → ⊥
divides v m x p classes is proof need e hold =
    let h : IsProof v m (Splits x) = subst (IsProof v m) is proof in
    not_both x.bits (needed v.classes m) (subst (λ (c : Classes). HoldIn (places_of v.pair) c x.bits) e hold m need.0) h.2

-- one place more
pub passes_more : (v : Standing) (m : ℕ) → ((q : ℕ) → q < m → Passes v.pair v.k v.classes q) → Passes v.pair v.k v.classes m → (q : ℕ) → q < m + 1 → Passes v.pair v.k v.classes q
passes_more v m before here q lt =
    ⊎_elim
    (λ (less : q < m). before q less)
    (λ (ge : m ≤ q). let e : m ≡ q = omega arith in subst (Passes v.pair v.k v.classes) e here)
    (cases_lt q m)

-- all passed
pub greatest_is : (v : Standing) (classes : Classes) → IsVersion v → ((q : ℕ) → q < places_of v.pair → Passes v.pair v.k v.classes q) → classes ≡ v.classes → AreOfGreatest v.pair v.k classes
greatest_is v classes is all e = subst (AreOfGreatest v.pair v.k) (sym e) (exact v.pair v.k v.classes is.partition is.keeps all)

-- the copy of a round's version after the places below one: where no class was added it is as it was, and these places passed
pub record IsRound (v next : Standing) (added place : ℕ) : Type 0 where
  pub pair : next.pair ≡ v.pair
  pub k : next.k ≡ v.k
  pub count : class_count (places_of v.pair) next.classes ≡ class_count (places_of v.pair) v.classes + added
  pub none : added ≡ 0 → (next.classes ≡ v.classes) × ((q : ℕ) → q < place → Passes v.pair v.k v.classes q)

pub round_first : (v w next : Standing) → w ≡ v → next ≡ w → IsRound v next 0 0
round_first v w next e h =
    let s : next ≡ v = h ∙ e in
    record {
      pair = ap (λ (z : Standing). z.pair) s;
      k = ap (λ (z : Standing). z.k) s;
      count = let c = ap (λ (z : Standing). class_count (places_of v.pair) z.classes) s in omega arith;
      none = λ z. (ap (λ (z : Standing). z.classes) s, λ q lt. absurd (omega arith));
    }

more_of : (v before after : Standing) (added more m : ℕ) → IsRound v before added m → after.pair ≡ v.pair → after.k ≡ v.k → class_count (places_of v.pair) after.classes ≡ class_count (places_of v.pair) before.classes + more
    → (more ≡ 0 → before.classes ≡ v.classes → (after.classes ≡ v.classes) × Passes v.pair v.k v.classes m) → IsRound v after (added + more) (m + 1)
more_of v before after added more m is pair k count none = record {
  pair = pair;
  k = k;
  count = let c = is.count in omega arith;
  none = λ z.
      let old = is.none (omega arith) in
      let now = none (omega arith) old.0 in (now.0, passes_more v m old.1 now.1);
}

pub round_more : (v w before after : Standing) (added more m : ℕ) → w ≡ v → IsRound v before added m → after.pair ≡ w.pair → after.k ≡ w.k → class_count (places_of w.pair) after.classes ≡ class_count (places_of w.pair) before.classes + more
    → (more ≡ 0 → before.classes ≡ w.classes → (after.classes ≡ w.classes) × Passes w.pair w.k w.classes m) → IsRound v after (added + more) (m + 1)
round_more v w before after added more m e is pair k count none =
    subst (λ (z : Standing). IsRound z after (added + more) (m + 1)) e (more_of w before after added more m (subst (λ (z : Standing). IsRound z before added m) (sym e) is) pair k count none)

-- no more classes than places
pub few_added : (v next : Standing) (added place : ℕ) → IsRound v next added place → added ≤ places_of v.pair
few_added v next added place is = let c = is.count in omega (arith, count_most (places_of v.pair) next.classes)
