-- What a split by words keeps from place to place.
use Rattle.std.proofs.Common.{◌≡◌, ◌≢◌, ◌==◌, ◌&&◌, ◌∙◌, ◌<◌, ◌≤◌, ℕ, ◌+◌, Bool, true, false, not, List, length, set, if◌then◌else◌, Option, None, Some, unwrap_or, refl, ap, sym, subst, arith, ⊎_elim, slice_index, eq-eqb, eqb-true, true≢false, length-set, get_or-set_same, get_or-set_other, inl, inr, ◌⊎◌}
use Rattle.std.proofs.lemmas.Bool.{cases_lt, eqb-false, and_parts, and_from}
use Rattle.std.proofs.lemmas.List.FromFn.{fill_by_all}
use Rattle.class_partition.specs.Classes.{Classes, least_of, ArePartition, is_least, class_count}
use Rattle.class_partition.specs.Steps.{classes_of}
use Rattle.class_partition.specs.Words.{relative_word, first_with_word, split_of_words}
use Rattle.class_partition.specs.WordSteps.{same_part, part_of, stays, place_of_word, begins_after}
use Rattle.class_partition.proofs.Counting.{counted, counted_le, counted_most, counted_push, counted_split, one}
use Rattle.class_partition.proofs.WordSplitting.{is_first, same_first}

-- what is known of a part of the class that begins at r, after the places below i
abbrev pub IsPart : ℕ → Classes → List ℕ → ℕ → ℕ → ℕ → Option ℕ → Type 0
IsPart n before words i r w None = (q : ℕ) → q < i → least_of before q ≡ r → relative_word before words q ≡ w → relative_word before words q ≡ relative_word before words r
IsPart n before words i r w (Some v) = (v < i) × (least_of before v ≡ r) × (relative_word before words v ≡ w) × (first_with_word n before words v ≡ v)

abbrev pub is_new : ℕ → Classes → List ℕ → ℕ → Bool
is_new n before words p = (first_with_word n before words p == p) && not (is_least before p)

pub record IsSplitSoFar (n i : ℕ) (before : Classes) (words : List ℕ) (begins : ℕ × ℕ → Option ℕ) (after : List ℕ) (added : ℕ) : Type 0 where
  pub size : length after ≡ n
  pub done : (q : ℕ) → q < i → slice_index after q ≡ first_with_word n before words q
  pub parts : (r w : ℕ) → IsPart n before words i r w (begins (r, w))
  pub count : added ≡ counted (is_new n before words) 0 i

first_self : (n : ℕ) (before : Classes) (words : List ℕ) → ArePartition n before → (p : ℕ) → p < n → least_of before p ≡ p → first_with_word n before words p ≡ p
first_self n before words is p lt e =
    let f = is_first n before words p lt in
    let low = f.low in
    let together = f.together in
    let back = is.lower (first_with_word n before words p) (omega arith) in
    omega arith

first_least : (n : ℕ) (before : Classes) (words : List ℕ) → ArePartition n before → (p : ℕ) → p < n → relative_word before words p ≡ relative_word before words (least_of before p) → first_with_word n before words p ≡ least_of before p
first_least n before words is p lt same =
    let low = is.lower p lt in
    same_first n before words p (least_of before p) (sym (is.fixed p lt)) same ∙ first_self n before words is (least_of before p) (omega arith) (is.fixed p lt)

first_new : (n : ℕ) (before : Classes) (words : List ℕ) (p : ℕ) → p < n → relative_word before words p ≢ relative_word before words (least_of before p) → IsPart n before words p (least_of before p) (relative_word before words p) None → first_with_word n before words p ≡ p
first_new n before words p lt differ none =
    let f = is_first n before words p lt in
    let low = f.low in
    ⊎_elim (λ (less : first_with_word n before words p < p). absurd (differ (sym f.same ∙ none (first_with_word n before words p) less f.together f.same))) (λ (ge : p ≤ first_with_word n before words p). omega arith) (cases_lt (first_with_word n before words p) p)

-- the place goes to the first place with its word
pub place_is : (n i : ℕ) (before : Classes) (words : List ℕ) (begins : ℕ × ℕ → Option ℕ) → ArePartition n before → i < n → ((r w : ℕ) → IsPart n before words i r w (begins (r, w))) → place_of_word before words begins i ≡ first_with_word n before words i
place_is n i before words begins is lt parts = by (stays before words i) refl (begins (part_of before words i)) (parts (least_of before i) (relative_word before words i))
  where
    by : (x : Bool) → stays before words i ≡ x → (o : Option ℕ) → IsPart n before words i (least_of before i) (relative_word before words i) o → (if x then least_of before i else unwrap_or o i) ≡ first_with_word n before words i
    by true e o part = sym (first_least n before words is i lt (eqb-true (relative_word before words i) (relative_word before words (least_of before i)) e))
    by false e None part = sym (first_new n before words i lt (eqb-false (relative_word before words i) (relative_word before words (least_of before i)) e) part)
    by false e (Some v) part = sym part.3 ∙ same_first n before words v i part.1 part.2

below_next : (i q : ℕ) → q < i + 1 → (q < i) ⊎ (q ≡ i)
below_next i q lt = ⊎_elim (λ (less : q < i). inl less) (λ (ge : i ≤ q). inr (omega arith)) (cases_lt q i)

-- a place changes no part but its own
extend : (n i : ℕ) (before : Classes) (words : List ℕ) (r w : ℕ) (o : Option ℕ) → (least_of before i ≡ r → relative_word before words i ≡ w → relative_word before words i ≡ relative_word before words r)
    → IsPart n before words i r w o → IsPart n before words (i + 1) r w o
extend n i before words r w None here part = λ q lt at same. ⊎_elim (λ (less : q < i). part q less at same)
    (λ (e : q ≡ i). ap (relative_word before words) e ∙ here (ap (least_of before) (sym e) ∙ at) (ap (relative_word before words) (sym e) ∙ same))
    (below_next i q lt)
extend n i before words r w (Some v) here part = (let less = part.0 in omega arith, part.1, part.2, part.3)

pub parts_are : (n i : ℕ) (before : Classes) (words : List ℕ) (begins : ℕ × ℕ → Option ℕ) → ArePartition n before → i < n → ((r w : ℕ) → IsPart n before words i r w (begins (r, w)))
    → (r w : ℕ) → IsPart n before words (i + 1) r w (begins_after before words begins i (r, w))
parts_are n i before words begins is lt parts r w = by (stays before words i) refl (same_part (part_of before words i) (r, w)) refl
  where
    at : ℕ
    at = place_of_word before words begins i

    by : (x : Bool) → stays before words i ≡ x → (y : Bool) → same_part (part_of before words i) (r, w) ≡ y
        → IsPart n before words (i + 1) r w (if x then begins (r, w) else if y then Some at else begins (r, w))
    by true e y d = extend n i before words r w (begins (r, w)) (λ l s. eqb-true (relative_word before words i) (relative_word before words (least_of before i)) e ∙ ap (relative_word before words) l) (parts r w)
    by false e true d =
        let both = and_parts (least_of before i == r) (relative_word before words i == w) d in
        let l : least_of before i ≡ r = eqb-true (least_of before i) r both.0 in
        let s : relative_word before words i ≡ w = eqb-true (relative_word before words i) w both.1 in
        let f = is_first n before words i lt in
        let e : at ≡ first_with_word n before words i = place_is n i before words begins is lt parts in
        subst (λ (v : ℕ). IsPart n before words (i + 1) r w (Some v)) (sym e)
        (let low = f.low in omega arith, f.together ∙ l, f.same ∙ s, same_first n before words (first_with_word n before words i) i f.together f.same)
    by false e false d = extend n i before words r w (begins (r, w)) (λ l s. absurd (true≢false (sym (and_from (least_of before i == r) (relative_word before words i == w) (eq-eqb (least_of before i) r l) (eq-eqb (relative_word before words i) w s)) ∙ d))) (parts r w)

-- one place more
pub more_split : (n i : ℕ) (before : Classes) (words : List ℕ) (begins next : ℕ × ℕ → Option ℕ) (after : List ℕ) (added at more : ℕ) → ArePartition n before → i < n → IsSplitSoFar n i before words begins after added
    → at ≡ place_of_word before words begins i → ((part : ℕ × ℕ) → next part ≡ begins_after before words begins i part) → more ≡ added + one ((at == i) && not (is_least before i)) → IsSplitSoFar n (i + 1) before words next (set after i at) more
more_split n i before words begins next after added at more is lt so place parts count =
    let first : at ≡ first_with_word n before words i = place ∙ place_is n i before words begins is lt so.parts in
    let size = so.size in
    record {
      size = length-set after i at ∙ so.size;
      done = λ q l. ⊎_elim (λ (less : q < i). get_or-set_other after i q at 0 (λ s. omega arith) ∙ so.done q less)
          (λ (s : q ≡ i). ap (slice_index (set after i at)) s ∙ get_or-set_same after i at 0 (omega arith) ∙ first ∙ ap (first_with_word n before words) (sym s)) (below_next i q l);
      parts = λ r w. subst (IsPart n before words (i + 1) r w) (sym (parts (r, w))) (parts_are n i before words begins is lt so.parts r w);
      count =
          let push = counted_push (is_new n before words) 0 i in
          let z : 0 + i ≡ i = omega arith in
          let here = ap (λ (k : ℕ). one (is_new n before words k)) z in
          let same = ap (λ (f : ℕ). one ((f == i) && not (is_least before i))) first in
          let c = so.count in
          omega arith;
    }

pub none_split : (n : ℕ) (before : Classes) (words : List ℕ) (begins : ℕ × ℕ → Option ℕ) (after : List ℕ) → length after ≡ n → ((part : ℕ × ℕ) → begins part ≡ None) → IsSplitSoFar n 0 before words begins after 0
none_split n before words begins after size empty = record {
  size = size;
  done = λ q lt. absurd (omega arith);
  parts = λ r w. subst (IsPart n before words 0 r w) (sym (empty (r, w))) (λ q lt. absurd (omega arith));
  count = refl;
}

pub all_split : (n i : ℕ) (before : Classes) (words : List ℕ) (begins : ℕ × ℕ → Option ℕ) (after : List ℕ) (added : ℕ) → n ≤ i → IsSplitSoFar n i before words begins after added → after ≡ (split_of_words n before words).least
all_split n i before words begins after added end so = fill_by_all (first_with_word n before words) after n 0 so.size (λ k lt. so.done k (omega arith))

pub count_is : (n i : ℕ) (before : Classes) (words : List ℕ) (begins : ℕ × ℕ → Option ℕ) (after : List ℕ) (added : ℕ) → ArePartition n before → n ≡ i → IsSplitSoFar n i before words begins after added
    → class_count n (classes_of after before.phase) ≡ class_count n before + added
count_is n i before words begins after added is end so =
    let at : (p : ℕ) → p < n → is_least (classes_of after before.phase) p ≡ (first_with_word n before words p == p) = λ p lt. ap (λ (x : ℕ). x == p) (so.done p (omega arith)) in
    let more = counted_le (is_least (classes_of after before.phase)) (λ p. first_with_word n before words p == p) 0 n (λ p low high on. sym (at p (omega arith)) ∙ on) in
    let less = counted_le (λ p. first_with_word n before words p == p) (is_least (classes_of after before.phase)) 0 n (λ p low high on. at p (omega arith) ∙ on) in
    let parts = counted_split (is_least before) (λ p. first_with_word n before words p == p) 0 n (λ p low high on. eq-eqb (first_with_word n before words p) p (first_self n before words is p (omega arith) (eqb-true (least_of before p) p on))) in
    let c = so.count ∙ ap (counted (is_new n before words) 0) (sym end) in
    omega arith

pub added_below : (n i : ℕ) (before : Classes) (words : List ℕ) (begins : ℕ × ℕ → Option ℕ) (after : List ℕ) (added : ℕ) → IsSplitSoFar n i before words begins after added → added ≤ i
added_below n i before words begins after added so = let h = counted_most (is_new n before words) 0 i in let c = so.count in omega arith
