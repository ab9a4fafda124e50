-- What a split keeps from place to place.
use Rattle.std.proofs.Common.{◌≡◌, ◌≢◌, ◌==◌, ◌&&◌, ◌∙◌, ◌<◌, ◌≤◌, ◌⊎◌, ℕ, ◌+◌, Bool, true, false, not, List, length, set, cond, if◌then◌else◌, refl, ap, ap₂, sym, subst, arith, min, true≢false, inl, inr, ⊎_elim, slice_index, eq-eqb, ne_eqb, eqb-true, length-set, get_or-set_same, get_or-set_other}
use Rattle.std.proofs.lemmas.Bool.{cases_lt, cases_eq, eqb-false, and_left, and_right}
use Rattle.std.proofs.lemmas.List.FromFn.{fill_by_all}
use Rattle.circ_model.specs.Meaning.{signed}
use Rattle.class_partition.specs.Classes.{Classes, least_of, ArePartition, relative, is_least, class_count, first_with, split_of}
use Rattle.class_partition.proofs.Counting.{counted, counted_le, counted_most, counted_push, counted_split}
use Rattle.class_partition.proofs.Splitting.{is_first, same_first}
use Rattle.class_partition.specs.Steps.{classes_of, split_step}

-- what is known of the other part of the class that begins at r, after the places below i
abbrev pub OtherPart : Classes → List Bool → ℕ → ℕ → ℕ → Type 0
OtherPart before row i r o =
    ((o ≡ r) × ((q : ℕ) → q < i → least_of before q ≡ r → relative before row q ≡ relative before row r))
    ⊎ ((o < i) × (least_of before o ≡ r) × (relative before row o ≢ relative before row r) × ((q : ℕ) → q < o → least_of before q ≡ r → relative before row q ≡ relative before row r))

abbrev pub is_new : ℕ → Classes → List Bool → ℕ → Bool
is_new n before row p = (first_with n before row p == p) && not (is_least before p)

-- of the list while it is split: a first place of a class has there where the class's other part begins, if it is known
pub record IsSplitSoFar (n i : ℕ) (before : Classes) (row : List Bool) (least : List ℕ) (added : ℕ) : Type 0 where
  pub least_len : length least ≡ n
  pub done : (q : ℕ) → q < i → (least_of before q ≡ q → ⊥) → slice_index least q ≡ first_with n before row q
  pub rest : (q : ℕ) → i ≤ q → q < n → slice_index least q ≡ least_of before q
  pub parts : (r : ℕ) → r < i → least_of before r ≡ r → OtherPart before row i r (slice_index least r)
  pub count : added ≡ counted (is_new n before row) 0 i

abbrev pub one : Bool → ℕ
one b = cond b 1 0

first_self : (n : ℕ) (before : Classes) (row : List Bool) → ArePartition n before → (p : ℕ) → p < n → least_of before p ≡ p → first_with n before row p ≡ p
first_self n before row is p lt e =
    let f = is_first n before row p lt in
    let low = f.low in
    let together = f.together in
    let back = is.lower (first_with n before row p) (omega arith) in
    omega arith

first_least : (n : ℕ) (before : Classes) (row : List Bool) → ArePartition n before → (p : ℕ) → p < n → relative before row (least_of before p) ≡ relative before row p → first_with n before row p ≡ least_of before p
first_least n before row is p lt same =
    let low = is.lower p lt in
    same_first n before row p (least_of before p) (sym (is.fixed p lt)) (sym same) ∙ first_self n before row is (least_of before p) (omega arith) (is.fixed p lt)

first_other : (n : ℕ) (before : Classes) (row : List Bool) → (p : ℕ) → p < n → ((q : ℕ) → q < p → least_of before q ≡ least_of before p → relative before row q ≡ relative before row (least_of before p))
    → relative before row p ≢ relative before row (least_of before p) → first_with n before row p ≡ p
first_other n before row p lt all differ =
    let f = is_first n before row p lt in
    let low = f.low in
    ⊎_elim (λ (less : first_with n before row p < p). absurd (differ (sym f.same ∙ all (first_with n before row p) less f.together))) (λ (ge : p ≤ first_with n before row p). omega arith) (cases_lt (first_with n before row p) p)

both_differ : (a b c : Bool) → a ≢ c → b ≢ c → a ≡ b
both_differ true true c x y = refl
both_differ true false true x y = absurd (x refl)
both_differ true false false x y = absurd (y refl)
both_differ false true true x y = absurd (y refl)
both_differ false true false x y = absurd (x refl)
both_differ false false c x y = refl

extend : (before : Classes) (row : List Bool) (i r o : ℕ) → (least_of before i ≡ r → relative before row i ≡ relative before row r) → OtherPart before row i r o → OtherPart before row (i + 1) r o
extend before row i r o here (inl (e, all)) = inl (e, λ q lt at. ⊎_elim (λ (less : q < i). all q less at) (λ (ge : i ≤ q). let s : q ≡ i = omega arith in ap (relative before row) s ∙ here (ap (least_of before) (sym s) ∙ at)) (cases_lt q i))
extend before row i r o here (inr (lt, at, differ, all)) = inr (omega arith, at, differ, all)

counted_here : (n i : ℕ) (before : Classes) (row : List Bool) (added : ℕ) (b : Bool) → added ≡ counted (is_new n before row) 0 i → is_new n before row i ≡ b → added + one b ≡ counted (is_new n before row) 0 (i + 1)
counted_here n i before row added b e at =
    let push = counted_push (is_new n before row) 0 i in
    let z : 0 + i ≡ i = omega arith in
    let s = ap (λ (k : ℕ). one (is_new n before row k)) z in
    let t = ap one at in
    omega arith

below_next : (i q : ℕ) → q < i + 1 → (q < i) ⊎ (q ≡ i)
below_next i q lt = ⊎_elim (λ (less : q < i). inl less) (λ (ge : i ≤ q). inr (omega arith)) (cases_lt q i)

case_least : (n i : ℕ) (before : Classes) (row : List Bool) (least : List ℕ) (added : ℕ) → ArePartition n before → i < n → IsSplitSoFar n i before row least added → least_of before i ≡ i
    → IsSplitSoFar n (i + 1) before row least (added + 0)
case_least n i before row least added is lt so e = record {
  least_len = so.least_len;
  done = λ q l ne. ⊎_elim (λ (less : q < i). so.done q less ne) (λ (s : q ≡ i). absurd (ne (ap (least_of before) s ∙ e ∙ sym s))) (below_next i q l);
  rest = λ q l h. so.rest q (omega arith) h;
  parts = λ r l at. ⊎_elim
      (λ (less : r < i). extend before row i r (slice_index least r) (λ h. let c : i ≡ r = sym e ∙ h in absurd (omega arith)) (so.parts r less at))
      (λ (s : r ≡ i). inl (ap (slice_index least) s ∙ so.rest i (omega arith) lt ∙ e ∙ sym s, λ q ql qe. let low = is.lower q (omega arith) in let same : q ≡ r = omega arith in ap (relative before row) same))
      (below_next i r l);
  count = counted_here n i before row added false so.count (and_right (first_with n before row i == i) (not (is_least before i)) (ap not (eq-eqb (least_of before i) i e)));
}

case_same : (n i : ℕ) (before : Classes) (row : List Bool) (least : List ℕ) (added : ℕ) → ArePartition n before → i < n → IsSplitSoFar n i before row least added → (least_of before i ≡ i → ⊥) → relative before row (least_of before i) ≡ relative before row i
    → IsSplitSoFar n (i + 1) before row least (added + 0)
case_same n i before row least added is lt so ne same =
    let first = first_least n before row is i lt same in
    record {
      least_len = so.least_len;
      done = λ q l nq. ⊎_elim (λ (less : q < i). so.done q less nq) (λ (s : q ≡ i). ap (slice_index least) s ∙ so.rest i (omega arith) lt ∙ sym first ∙ ap (first_with n before row) (sym s)) (below_next i q l);
      rest = λ q l h. so.rest q (omega arith) h;
      parts = λ r l at. ⊎_elim
          (λ (less : r < i). extend before row i r (slice_index least r) (λ h. sym same ∙ ap (relative before row) h) (so.parts r less at))
          (λ (s : r ≡ i). absurd (ne (ap (least_of before) (sym s) ∙ at ∙ s)))
          (below_next i r l);
      count = counted_here n i before row added false so.count (and_left (first_with n before row i == i) (not (is_least before i)) (ne_eqb (first_with n before row i) i (λ h. ne (sym first ∙ h))));
    }

case_new : (n i : ℕ) (before : Classes) (row : List Bool) (least : List ℕ) (added : ℕ) → ArePartition n before → i < n → IsSplitSoFar n i before row least added → (least_of before i ≡ i → ⊥)
    → relative before row i ≢ relative before row (least_of before i) → slice_index least (least_of before i) ≡ least_of before i → IsSplitSoFar n (i + 1) before row (set (set least (least_of before i) i) i i) (added + 1)
case_new n i before row least added is lt so ne differ none =
    let r : ℕ = least_of before i in
    let low : r ≤ i = is.lower i lt in
    let below : r < i = omega arith in
    let own : least_of before r ≡ r = is.fixed i lt in
    let all : (q : ℕ) → q < i → least_of before q ≡ r → relative before row q ≡ relative before row r = no_other (so.parts r below own) none in
    let first = first_other n before row i lt all differ in
    let ll = so.least_len in
    let lset = length-set least r i in
    let kept : (q : ℕ) → (q ≡ r → ⊥) → (q ≡ i → ⊥) → slice_index (set (set least r i) i i) q ≡ slice_index least q = λ q nr ni. get_or-set_other (set least r i) i q i 0 ni ∙ get_or-set_other least r q i 0 nr in
    record {
      least_len = length-set (set least r i) i i ∙ length-set least r i ∙ so.least_len;
      done = λ q l nq. ⊎_elim (λ (less : q < i). kept q (λ s. nq (ap (least_of before) s ∙ own ∙ sym s)) (λ s. omega arith) ∙ so.done q less nq) (λ (s : q ≡ i). ap (slice_index (set (set least r i) i i)) s ∙ get_or-set_same (set least r i) i i 0 (omega arith) ∙ sym first ∙ ap (first_with n before row) (sym s)) (below_next i q l);
      rest = λ q l h. kept q (λ s. omega arith) (λ s. omega arith) ∙ so.rest q (omega arith) h;
      parts = λ p l at. ⊎_elim
          (λ (less : p < i). ⊎_elim
          (λ (s : p ≡ r). subst (λ (x : ℕ). OtherPart before row (i + 1) x (slice_index (set (set least r i) i i) x)) (sym s) (subst (OtherPart before row (i + 1) r) (sym (get_or-set_other (set least r i) i r i 0 (λ h. omega arith) ∙ get_or-set_same least r i 0 (omega arith))) (inr (omega arith, refl, differ, all))))
          (λ (apart : p ≡ r → ⊥). subst (OtherPart before row (i + 1) p) (sym (kept p apart (λ h. omega arith))) (extend before row i p (slice_index least p) (λ h. absurd (apart (sym h))) (so.parts p less at)))
          (cases_eq p r))
          (λ (s : p ≡ i). absurd (ne (ap (least_of before) (sym s) ∙ at ∙ s)))
          (below_next i p l);
      count = counted_here n i before row added true so.count (ap₂ (λ (x y : Bool). x && not y) (eq-eqb (first_with n before row i) i first) (ne_eqb (least_of before i) i ne));
    }
  where
    no_other : OtherPart before row i (least_of before i) (slice_index least (least_of before i)) → slice_index least (least_of before i) ≡ least_of before i → (q : ℕ) → q < i → least_of before q ≡ least_of before i → relative before row q ≡ relative before row (least_of before i)
    no_other (inl (e, all)) none = all
    no_other (inr (less, at, apart, all)) none = absurd (apart (ap (relative before row) none))

case_known : (n i : ℕ) (before : Classes) (row : List Bool) (least : List ℕ) (added : ℕ) → ArePartition n before → i < n → IsSplitSoFar n i before row least added → (least_of before i ≡ i → ⊥)
    → relative before row i ≢ relative before row (least_of before i) → (slice_index least (least_of before i) ≡ least_of before i → ⊥) → IsSplitSoFar n (i + 1) before row (set least i (slice_index least (least_of before i))) (added + 0)
case_known n i before row least added is lt so ne differ some =
    let r : ℕ = least_of before i in
    let o : ℕ = slice_index least r in
    let low : r ≤ i = is.lower i lt in
    let below : r < i = omega arith in
    let part = so.parts r below (is.fixed i lt) in
    let known = other_is part some in
    let less = known.0 in
    let first_o : first_with n before row o ≡ o = first_other n before row o (omega arith) (λ q l h. known.3 q l (h ∙ known.1) ∙ ap (relative before row) (sym known.1)) (λ h. known.2 (h ∙ ap (relative before row) known.1)) in
    let first : first_with n before row i ≡ o = same_first n before row i o (sym known.1) (both_differ (relative before row i) (relative before row o) (relative before row r) differ known.2) ∙ first_o in
    let ll = so.least_len in
    record {
      least_len = length-set least i o ∙ so.least_len;
      done = λ q l nq. ⊎_elim (λ (h : q < i). get_or-set_other least i q o 0 (λ s. omega arith) ∙ so.done q h nq) (λ (s : q ≡ i). ap (slice_index (set least i o)) s ∙ get_or-set_same least i o 0 (omega arith) ∙ sym first ∙ ap (first_with n before row) (sym s)) (below_next i q l);
      rest = λ q l h. get_or-set_other least i q o 0 (λ s. omega arith) ∙ so.rest q (omega arith) h;
      parts = λ p l at. ⊎_elim
          (λ (h : p < i). ⊎_elim
          (λ (s : p ≡ r). subst (λ (x : ℕ). OtherPart before row (i + 1) x (slice_index (set least i o) x)) (sym s) (subst (OtherPart before row (i + 1) r) (sym (get_or-set_other least i r o 0 (λ h. omega arith))) (inr (omega arith, known.1, known.2, known.3))))
          (λ (apart : p ≡ r → ⊥). subst (OtherPart before row (i + 1) p) (sym (get_or-set_other least i p o 0 (λ s. omega arith))) (extend before row i p (slice_index least p) (λ s. absurd (apart (sym s))) (so.parts p h at)))
          (cases_eq p r))
          (λ (s : p ≡ i). absurd (ne (ap (least_of before) (sym s) ∙ at ∙ s)))
          (below_next i p l);
      count = counted_here n i before row added false so.count (and_left (first_with n before row i == i) (not (is_least before i)) (ne_eqb (first_with n before row i) i (λ h. omega arith)));
    }
  where
    other_is : OtherPart before row i (least_of before i) (slice_index least (least_of before i)) → (slice_index least (least_of before i) ≡ least_of before i → ⊥)
        → (slice_index least (least_of before i) < i) × (least_of before (slice_index least (least_of before i)) ≡ least_of before i) × (relative before row (slice_index least (least_of before i)) ≢ relative before row (least_of before i)) × ((q : ℕ) → q < slice_index least (least_of before i) → least_of before q ≡ least_of before i → relative before row q ≡ relative before row (least_of before i))
    other_is (inl (e, all)) some = absurd (some e)
    other_is (inr h) some = h

same_bits : (a b : Bool) → signed a b ≡ false → a ≡ b
same_bits true true e = refl
same_bits true false e = absurd (true≢false e)
same_bits false true e = absurd (true≢false e)
same_bits false false e = refl

apart_bits : (a b : Bool) → signed a b ≡ true → b ≢ a
apart_bits true true e h = true≢false (sym e)
apart_bits true false e h = true≢false (sym h)
apart_bits false true e h = true≢false h
apart_bits false false e h = true≢false (sym e)

abbrev chosen : ℕ → ℕ → List ℕ → Bool → Bool → Bool → List ℕ × Bool
chosen i r least x y z =
    if x then (least, false) else if y then (if z then (set (set least r i) i i, true) else (set least i (slice_index least r), false)) else (least, false)

abbrev pub After : ℕ → ℕ → Classes → List Bool → ℕ → List ℕ × Bool → Type 0
After n i before row added t = IsSplitSoFar n (i + 1) before row t.0 (added + one t.1)

chosen_is : (n i : ℕ) (before : Classes) (row : List Bool) (least : List ℕ) (added : ℕ) → ArePartition n before → i < n → IsSplitSoFar n i before row least added → (x y z : Bool)
    → (least_of before i == i) ≡ x → signed (relative before row (least_of before i)) (relative before row i) ≡ y → (slice_index least (least_of before i) == least_of before i) ≡ z
    → After n i before row added (chosen i (least_of before i) least x y z)
chosen_is n i before row least added is lt so true y z ex ey ez = case_least n i before row least added is lt so (eqb-true (least_of before i) i ex)
chosen_is n i before row least added is lt so false false z ex ey ez = case_same n i before row least added is lt so (eqb-false (least_of before i) i ex) (same_bits (relative before row (least_of before i)) (relative before row i) ey)
chosen_is n i before row least added is lt so false true true ex ey ez =
    case_new n i before row least added is lt so (eqb-false (least_of before i) i ex) (apart_bits (relative before row (least_of before i)) (relative before row i) ey) (eqb-true (slice_index least (least_of before i)) (least_of before i) ez)
chosen_is n i before row least added is lt so false true false ex ey ez =
    case_known n i before row least added is lt so (eqb-false (least_of before i) i ex) (apart_bits (relative before row (least_of before i)) (relative before row i) ey) (eqb-false (slice_index least (least_of before i)) (least_of before i) ez)

pub step_is : (n i : ℕ) (before : Classes) (row : List Bool) (least : List ℕ) (added : ℕ) → ArePartition n before → i < n → IsSplitSoFar n i before row least added → After n i before row added (split_step before.phase row i least)
step_is n i before row least added is lt so =
    subst (λ (r : ℕ). After n i before row added (chosen i r least (r == i) (signed (relative before row r) (relative before row i)) (slice_index least r == r))) (sym (so.rest i (omega arith) lt))
    (chosen_is n i before row least added is lt so (least_of before i == i) (signed (relative before row (least_of before i)) (relative before row i)) (slice_index least (least_of before i) == least_of before i) refl refl refl)

-- once each place that has a later one there has itself again, the list is that of the split
pub restored_is : (n i : ℕ) (before : Classes) (row : List Bool) (least after : List ℕ) (added : ℕ) → ArePartition n before → n ≡ i → IsSplitSoFar n i before row least added → ((q : ℕ) → q < n → slice_index after q ≡ min (slice_index least q) q)
    → (p : ℕ) → p < n → slice_index after p ≡ first_with n before row p
restored_is n i before row least after added is end so low p lt = ⊎_elim
    (λ (own : least_of before p ≡ p). ⊎_elim
    (λ (h : (slice_index least p ≡ p) × ((q : ℕ) → q < i → least_of before q ≡ p → relative before row q ≡ relative before row p)). let at = low p lt in let e = h.0 in omega arith ∙ sym (first_self n before row is p lt own))
    (λ (h : (slice_index least p < i) × (least_of before (slice_index least p) ≡ p) × (relative before row (slice_index least p) ≢ relative before row p) × ((q : ℕ) → q < slice_index least p → least_of before q ≡ p → relative before row q ≡ relative before row p)).
    let at = low p lt in
    let inside = h.0 in
    let below = is.lower (slice_index least p) (omega arith) in
    let e = h.1 in
    omega arith ∙ sym (first_self n before row is p lt own))
    (so.parts p (omega arith) own))
    (λ (apart : least_of before p ≡ p → ⊥).
    let at = low p lt in
    let e = so.done p (omega arith) apart in
    let f = is_first n before row p lt in
    let less = f.low in
    omega arith)
    (cases_eq (least_of before p) p)

pub lists_are : (n : ℕ) (before : Classes) (row : List Bool) (after : List ℕ) → length after ≡ n → ((p : ℕ) → p < n → slice_index after p ≡ first_with n before row p) → after ≡ (split_of n before row).least
lists_are n before row after len at = fill_by_all (first_with n before row) after n 0 len (λ k lt. at k (omega arith))

pub count_is : (n i : ℕ) (before : Classes) (row : List Bool) (least after : List ℕ) (added : ℕ) → ArePartition n before → n ≡ i → IsSplitSoFar n i before row least added → ((p : ℕ) → p < n → slice_index after p ≡ first_with n before row p)
    → class_count n (classes_of after before.phase) ≡ class_count n before + added
count_is n i before row least after added is end so firsts =
    let at : (p : ℕ) → p < n → is_least (classes_of after before.phase) p ≡ (first_with n before row p == p) = λ p lt. ap (λ (x : ℕ). x == p) (firsts p lt) in
    let more = counted_le (is_least (classes_of after before.phase)) (λ p. first_with n before row p == p) 0 n (λ p low high on. sym (at p (omega arith)) ∙ on) in
    let less = counted_le (λ p. first_with n before row p == p) (is_least (classes_of after before.phase)) 0 n (λ p low high on. at p (omega arith) ∙ on) in
    let parts = counted_split (is_least before) (λ p. first_with n before row p == p) 0 n (λ p low high on. eq-eqb (first_with n before row p) p (first_self n before row is p (omega arith) (eqb-true (least_of before p) p on))) in
    let c = so.count ∙ ap (counted (is_new n before row) 0) (sym end) in
    omega arith

pub added_below : (n i : ℕ) (before : Classes) (row : List Bool) (least : List ℕ) (added : ℕ) → IsSplitSoFar n i before row least added → added ≤ i
added_below n i before row least added so = let h = counted_most (is_new n before row) 0 i in let c = so.count in omega arith
