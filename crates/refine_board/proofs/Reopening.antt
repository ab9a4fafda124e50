-- A split goes over the places that were touched: each other place is open, and stays so.
use Rattle.std.proofs.Common.{◌≡◌, ◌==◌, ◌&&◌, ◌∙◌, ◌⊎◌, inl, inr, ◌<◌, ◌≤◌, ◌+◌, ◌-◌, ◌++◌, ◌∷◌, [], ℕ, Bool, true, false, List, refl, length, set, ap, sym, subst, arith, ⊎_elim, slice_index_or, get_or-set_same, get_or-set_other, length-set, if◌then◌else◌}
use Rattle.std.specs.List.{All, Contains, range_with_len}
use Rattle.std.proofs.lemmas.Bool.{cases_eq, cases_lt}
use Rattle.std.proofs.lemmas.List.{ext_get_or, get_or_default, get_or_past}
use Rattle.std.proofs.lemmas.List.Elements.{All-push, Contains-append_left, Contains-push}
use Rattle.std.proofs.lemmas.List.FromFn.{length-range_with_len, get_or-range_with_len}
use Rattle.class_partition.specs.Classes.{Classes, least_of}
use Rattle.used_pairs.specs.Lists.{all_together}
use Rattle.verdict_stamp.specs.declared.used.Used.TheVariants as used
use Rattle.refine_board.specs.declared.marks.Mark.{Mark}
use Rattle.refine_board.specs.declared.marks.Mark.TheVariants.{Open, Out, Proved}
use Rattle.refine_board.specs.States.{is_open, lasting, lasting_marks}
use Rattle.refine_board.specs.Touched.{AreNoted, AreTouched}
use Rattle.refine_board.proofs.Lasting.{length_lasting, lasting_at}

-- what is written at a place is there alone
abbrev IsHere : List Mark → ℕ → Mark → ℕ → Type 0
IsHere marks p m q = (q ≡ p) × (slice_index_or (set marks p m) q Open ≡ m)

abbrev IsElsewhere : List Mark → ℕ → Mark → ℕ → Type 0
IsElsewhere marks p m q = (q ≡ p → ⊥) × (slice_index_or (set marks p m) q Open ≡ slice_index_or marks q Open)

set_place : (marks : List Mark) (p : ℕ) (m : Mark) (q : ℕ) → p < length marks → IsHere marks p m q ⊎ IsElsewhere marks p m q
set_place marks p m q lt = ⊎_elim
    (λ (e : q ≡ p). inl (e, ap (λ (n : ℕ). slice_index_or (set marks p m) n Open) e ∙ get_or-set_same marks p m Open lt))
    (λ (ne : q ≡ p → ⊥). inr (ne, get_or-set_other marks p q m Open ne))
    (cases_eq q p)

-- a place that is in the list may have any mark
touched_put : (marks : List Mark) (touched : List ℕ) (p : ℕ) (m : Mark) → p < length marks → AreTouched marks touched → Contains touched p → AreTouched (set marks p m) touched
touched_put marks touched p m lt are has = λ q. ⊎_elim
    (λ (h : IsHere marks p m q). inr (subst (Contains touched) (sym h.0) has))
    (λ (h : IsElsewhere marks p m q). ⊎_elim
    (λ (o : slice_index_or marks q Open ≡ Open). inl (h.1 ∙ o))
    (λ (t : Contains touched q). inr t)
    (are q))
    (set_place marks p m q lt)

-- and any place may be open
touched_open : (marks : List Mark) (touched : List ℕ) (p : ℕ) → p < length marks → AreTouched marks touched → AreTouched (set marks p Open) touched
touched_open marks touched p lt are = λ q. ⊎_elim
    (λ (h : IsHere marks p Open q). inl h.1)
    (λ (h : IsElsewhere marks p Open q). ⊎_elim
    (λ (o : slice_index_or marks q Open ≡ Open). inl (h.1 ∙ o))
    (λ (t : Contains touched q). inr t)
    (are q))
    (set_place marks p Open q lt)

touched_more : (marks : List Mark) (touched : List ℕ) (p : ℕ) → AreTouched marks touched → AreTouched marks (touched ++ p ∷ [])
touched_more marks touched p are = λ q. ⊎_elim
    (λ (o : slice_index_or marks q Open ≡ Open). inl o)
    (λ (t : Contains touched q). inr (Contains-append_left touched (p ∷ []) q t))
    (are q)

-- the list of all places has each whose mark isn't open
pub touched_all : (marks : List Mark) → AreTouched marks (range_with_len 0 (length marks))
touched_all marks = λ q. ⊎_elim
    (λ (lt : q < length marks). inr (q, omega (arith, lt, length-range_with_len 0 (length marks)), get_or-range_with_len 0 (length marks) q q lt ∙ omega arith))
    (λ (past : length marks ≤ q). inl (get_or_past marks q Open past))
    (cases_lt q (length marks))

pub within_all : (n : ℕ) → All (λ (p : ℕ). p < n) (range_with_len 0 n)
within_all n k d lt = let inside : k < n = omega (arith, lt, length-range_with_len 0 n) in subst (λ (p : ℕ). p < n) (sym (get_or-range_with_len 0 n k d inside)) (omega arith)

pub noted_open : (marks : List Mark) (touched : List ℕ) (over : Bool) (capacity p : ℕ) → AreNoted marks touched over capacity → p < length marks → AreNoted (set marks p Open) touched over capacity
noted_open marks touched over capacity p was lt = let many = length-set marks p Open in record {
  within = subst (λ (n : ℕ). All (λ (q : ℕ). q < n) touched) (sym many) was.within;
  room = omega (arith, many, was.room);
  all = λ e. touched_open marks touched p lt (was.all e);
}

-- a place whose mark wasn't open is in the list
pub noted_put : (marks : List Mark) (touched : List ℕ) (over : Bool) (capacity p : ℕ) (m : Mark) → AreNoted marks touched over capacity → p < length marks → is_open (slice_index_or marks p Open) ≡ false → AreNoted (set marks p m) touched over capacity
noted_put marks touched over capacity p m was lt closed = let many = length-set marks p m in record {
  within = subst (λ (n : ℕ). All (λ (q : ℕ). q < n) touched) (sym many) was.within;
  room = omega (arith, many, was.room);
  all = λ e. touched_put marks touched p m lt (was.all e) (⊎_elim
      (λ (o : slice_index_or marks p Open ≡ Open). absurd (never (ap is_open (sym o) ∙ closed)))
      (λ (t : Contains touched p). t)
      (was.all e p));
}
  where
    never : true ≡ false → ⊥
    never e = cc

pub noted_more : (marks : List Mark) (touched : List ℕ) (over : Bool) (capacity p : ℕ) (m : Mark) → AreNoted marks touched over capacity → p < length marks → AreNoted (set marks p m) (touched ++ p ∷ []) over capacity
noted_more marks touched over capacity p m was lt = let many = length-set marks p m in record {
  within = subst (λ (n : ℕ). All (λ (q : ℕ). q < n) (touched ++ p ∷ [])) (sym many) (All-push (λ (q : ℕ). q < length marks) touched p was.within lt);
  room = omega (arith, many, was.room);
  all = λ e. touched_put marks (touched ++ p ∷ []) p m lt (touched_more marks touched p (was.all e)) (Contains-push touched p);
}

pub noted_over : (marks : List Mark) (touched : List ℕ) (over : Bool) (capacity p : ℕ) (m : Mark) → AreNoted marks touched over capacity → p < length marks → AreNoted (set marks p m) touched true capacity
noted_over marks touched over capacity p m was lt = let many = length-set marks p m in record {
  within = subst (λ (n : ℕ). All (λ (q : ℕ). q < n) touched) (sym many) was.within;
  room = omega (arith, many, was.room);
  all = λ e. cc;
}

-- a second split to the same classes leaves what the first left
lasting_twice : (classes : Classes) (p : ℕ) (m : Mark) → lasting classes p (lasting classes p m) ≡ lasting classes p m
lasting_twice classes p Open = refl
lasting_twice classes p Out = refl
lasting_twice classes p (Proved r used.Version) = refl
lasting_twice classes p (Proved r (used.Known j)) = refl
lasting_twice classes p (Proved r (used.Pairs pairs)) = at ((least_of classes p == r) && all_together classes pairs) refl
  where
    at : (b : Bool) → b ≡ ((least_of classes p == r) && all_together classes pairs) → lasting classes p (if b then Proved r (used.Pairs pairs) else Open) ≡ (if b then Proved r (used.Pairs pairs) else Open)
    at true is = ap (λ (b : Bool). if b then Proved r (used.Pairs pairs) else Open) (sym is)
    at false is = refl

-- a split goes over the list from its end: it is done with what stands at i and later
pub record IsHalfway (classes : Classes) (i : ℕ) (before marks : List Mark) (touched : List ℕ) : Type 0 where
  pub many : length marks ≡ length before
  pub within : All (λ (p : ℕ). p < length before) touched
  pub inside : i ≤ length touched
  pub either : (q : ℕ) → (slice_index_or marks q Open ≡ slice_index_or before q Open) ⊎ (slice_index_or marks q Open ≡ lasting classes q (slice_index_or before q Open))
  pub done : (q : ℕ) → (slice_index_or marks q Open ≡ lasting classes q (slice_index_or before q Open)) ⊎ ((k : ℕ) × (k < i) × (slice_index_or touched k q ≡ q))
  pub are : AreTouched marks touched

pub halfway_begins : (classes : Classes) (i : ℕ) (marks : List Mark) (touched : List ℕ) → i ≡ length touched → All (λ (p : ℕ). p < length marks) touched → AreTouched marks touched → IsHalfway classes i marks marks touched
halfway_begins classes i marks touched all within are = record {
  many = refl;
  within = within;
  inside = omega (arith, all);
  either = λ q. inl refl;
  done = λ q. ⊎_elim
      (λ (o : slice_index_or marks q Open ≡ Open). inl (o ∙ sym (ap (lasting classes q) o)))
      (λ (t : Contains touched q). inr (t.0, omega (arith, all, t.1), t.2))
      (are q);
  are = are;
}

pub halfway_ends : (classes : Classes) (before marks : List Mark) (touched : List ℕ) → IsHalfway classes 0 before marks touched → marks ≡ lasting_marks classes before
halfway_ends classes before marks touched is = ext_get_or Open marks (lasting_marks classes before) (is.many ∙ sym (length_lasting classes before))
    (λ q lt. ⊎_elim
    (λ (e : slice_index_or marks q Open ≡ lasting classes q (slice_index_or before q Open)). e)
    (λ (h : (k : ℕ) × (k < 0) × (slice_index_or touched k q ≡ q)). absurd (omega (arith, h.1)))
    (is.done q) ∙ sym (lasting_at classes before q))

-- the next place from the end
same_place : (touched : List ℕ) (i k p q d : ℕ) → i < length touched → p ≡ slice_index_or touched i d → slice_index_or touched k q ≡ q → k ≡ i → q ≡ p
same_place touched i k p q d lt named e at = sym (named ∙ get_or_default touched i d q lt ∙ ap (λ (n : ℕ). slice_index_or touched n q) (sym at) ∙ e)

pub halfway_stays : (classes : Classes) (i : ℕ) (before marks : List Mark) (touched : List ℕ) (p d : ℕ) → IsHalfway classes (i + 1) before marks touched → p ≡ slice_index_or touched i d
    → lasting classes p (slice_index_or marks p Open) ≡ slice_index_or marks p Open → IsHalfway classes i before marks touched
halfway_stays classes i before marks touched p d is named stays =
    let lt : i < length touched = omega (arith, is.inside) in
    let here : slice_index_or marks p Open ≡ lasting classes p (slice_index_or before p Open) = ⊎_elim
    (λ (e : slice_index_or marks p Open ≡ slice_index_or before p Open). sym stays ∙ ap (lasting classes p) e)
    (λ (e : slice_index_or marks p Open ≡ lasting classes p (slice_index_or before p Open)). e)
    (is.either p) in
    record {
      many = is.many;
      within = is.within;
      inside = omega (arith, lt);
      either = is.either;
      done = λ q. ⊎_elim
          (λ (e : slice_index_or marks q Open ≡ lasting classes q (slice_index_or before q Open)). inl e)
          (λ (h : (k : ℕ) × (k < i + 1) × (slice_index_or touched k q ≡ q)). ⊎_elim
          (λ (at : h.0 ≡ i). inl (subst (λ (n : ℕ). slice_index_or marks n Open ≡ lasting classes n (slice_index_or before n Open)) (sym (same_place touched i h.0 p q d lt named h.2 at)) here))
          (λ (ne : h.0 ≡ i → ⊥). inr (h.0, omega (arith, ne, h.1), h.2))
          (cases_eq h.0 i))
          (is.done q);
      are = is.are;
    }

-- the list after the place at i went from it, the last taking its place
pub record IsWithout (touched : List ℕ) (i : ℕ) (after : List ℕ) : Type 0 where
  pub long : length after + 1 ≡ length touched
  pub last : (d : ℕ) → i + 1 < length touched → slice_index_or after i d ≡ slice_index_or touched (length touched - 1) d
  pub others : (k d : ℕ) → (k ≡ i → ⊥) → k + 1 < length touched → slice_index_or after k d ≡ slice_index_or touched k d

pub halfway_opens : (classes : Classes) (i : ℕ) (before marks : List Mark) (touched after : List ℕ) (p d : ℕ) → IsHalfway classes (i + 1) before marks touched → p ≡ slice_index_or touched i d → p < length marks
    → lasting classes p (slice_index_or marks p Open) ≡ Open → IsWithout touched i after → IsHalfway classes i before (set marks p Open) after
halfway_opens classes i before marks touched after p d is named place opens without =
    let now : List Mark = set marks p Open in
    let lt : i < length touched = omega (arith, is.inside) in
    let here : lasting classes p (slice_index_or before p Open) ≡ Open = ⊎_elim
    (λ (e : slice_index_or marks p Open ≡ slice_index_or before p Open). ap (lasting classes p) (sym e) ∙ opens)
    (λ (e : slice_index_or marks p Open ≡ lasting classes p (slice_index_or before p Open)). sym (lasting_twice classes p (slice_index_or before p Open)) ∙ ap (lasting classes p) (sym e) ∙ opens)
    (is.either p) in
    let at_place : (q : ℕ) → IsHere marks p Open q → slice_index_or now q Open ≡ lasting classes q (slice_index_or before q Open) = λ q h.
    subst (λ (n : ℕ). slice_index_or now q Open ≡ lasting classes n (slice_index_or before n Open)) (sym h.0) (h.1 ∙ sym here) in
    record {
      many = length-set marks p Open ∙ is.many;
      within = λ k x inside. ⊎_elim
          (λ (e : k ≡ i). subst (λ (n : ℕ). slice_index_or after n x < length before) (sym e) (subst (λ (n : ℕ). n < length before) (sym (without.last x (omega (arith, e, inside, without.long)))) (is.within (length touched - 1) x (omega (arith, lt)))))
          (λ (ne : k ≡ i → ⊥). subst (λ (n : ℕ). n < length before) (sym (without.others k x ne (omega (arith, inside, without.long)))) (is.within k x (omega (arith, inside, without.long))))
          (cases_eq k i);
      inside = omega (arith, lt, without.long);
      either = λ q. ⊎_elim
          (λ (h : IsHere marks p Open q). inr (at_place q h))
          (λ (h : IsElsewhere marks p Open q). ⊎_elim
          (λ (e : slice_index_or marks q Open ≡ slice_index_or before q Open). inl (h.1 ∙ e))
          (λ (e : slice_index_or marks q Open ≡ lasting classes q (slice_index_or before q Open)). inr (h.1 ∙ e))
          (is.either q))
          (set_place marks p Open q place);
      done = λ q. ⊎_elim
          (λ (h : IsHere marks p Open q). inl (at_place q h))
          (λ (h : IsElsewhere marks p Open q). ⊎_elim
          (λ (e : slice_index_or marks q Open ≡ lasting classes q (slice_index_or before q Open)). inl (h.1 ∙ e))
          (λ (x : (k : ℕ) × (k < i + 1) × (slice_index_or touched k q ≡ q)).
          let ne : x.0 ≡ i → ⊥ = λ at. h.0 (same_place touched i x.0 p q d lt named x.2 at) in
          inr (x.0, omega (arith, ne, x.1), without.others x.0 q ne (omega (arith, ne, x.1, lt)) ∙ x.2))
          (is.done q))
          (set_place marks p Open q place);
      are = λ q. ⊎_elim
          (λ (h : IsHere marks p Open q). inl h.1)
          (λ (h : IsElsewhere marks p Open q). ⊎_elim
          (λ (o : slice_index_or marks q Open ≡ Open). inl (h.1 ∙ o))
          (λ (t : Contains touched q).
          let ne : t.0 ≡ i → ⊥ = λ at. h.0 (same_place touched i t.0 p q d lt named t.2 at) in
          ⊎_elim
          (λ (e : t.0 ≡ length touched - 1). inr (i, omega (arith, lt, ne, e, without.long), without.last q (omega (arith, lt, ne, e)) ∙ ap (λ (n : ℕ). slice_index_or touched n q) (sym e) ∙ t.2))
          (λ (other : t.0 ≡ length touched - 1 → ⊥). inr (t.0, omega (arith, other, t.1, without.long), without.others t.0 q ne (omega (arith, other, t.1)) ∙ t.2))
          (cases_eq t.0 (length touched - 1)))
          (is.are q))
          (set_place marks p Open q place);
    }
