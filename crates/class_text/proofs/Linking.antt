-- Classes as linked lists, from the last place to the first; and their members, along the links.
use Rattle.std.proofs.Common.{◌≡◌, ◌≢◌, ◌∙◌, ◌+◌, ◌-◌, ◌<◌, ◌≤◌, ◌⊎◌, ◌==◌, ℕ, zero, suc, List, [], ◌∷◌, ◌++◌, length, slice_index, slice_set, inl, inr, refl, sym, ap, subst, arith, ⊎_elim, false, true, codes}
use Rattle.std.specs.List.{flat_map}
use Rattle.std.proofs.lemmas.Grind.{common_steps}
use Rattle.std.proofs.lemmas.Bool.{cases_lt, ne_eqb, eq-eqb, le-ltb}
use Rattle.circ_model.specs.Meaning.{Pair, places_of}
use Rattle.class_partition.specs.Classes.{Classes, ArePartition, least_of}
use Rattle.class_text.specs.ClassLines.{members_from, member_text, members_text, class_line, class_line_of}
use Rattle.class_text.specs.Links.{IsNext, AreLinked}

-- places that aren't members go
skip : (d from m : ℕ) (classes : Classes) (r : ℕ) → ((q : ℕ) → from ≤ q → q < from + d → least_of classes q ≢ r) → members_from from (d + m) classes r ≡ members_from (from + d) m classes r
skip zero from m classes r none =
    let count : zero + m ≡ m = omega arith in
    let e : from ≡ from + zero = omega arith in
    ap (λ n. members_from from n classes r) count ∙ ap (λ f. members_from f m classes r) e
skip (suc d) from m classes r none =
    let out : (least_of classes from == r) ≡ false = ne_eqb (least_of classes from) r (none from (omega arith) (omega arith)) in
    let rest = skip d (from + 1) m classes r (λ q le lt. none q (omega (arith, le)) (omega (arith, lt))) in
    let e : from + 1 + d ≡ from + suc d = omega arith in
    let count : suc d + m ≡ suc (d + m) = omega arith in
    ap (λ n. members_from from n classes r) count ∙ rw out (rest ∙ ap (λ f. members_from f m classes r) e)

pub skip_to : (places from next : ℕ) (classes : Classes) (r : ℕ) → from ≤ next → next ≤ places → ((q : ℕ) → from ≤ q → q < next → least_of classes q ≢ r) → members_from from (places - from) classes r ≡ members_from next (places - next) classes r
skip_to places from next classes r le within none =
    let count : places - from ≡ (next - from) + (places - next) = omega (arith, le, within) in
    let at : from + (next - from) ≡ next = omega (arith, le) in
    ap (λ n. members_from from n classes r) count ∙ skip (next - from) from (places - next) classes r (λ q ge lt. none q ge (omega (arith, lt, le))) ∙ ap (λ f. members_from f (places - next) classes r) at

-- a member stands before those past it
pub member_here : (places p : ℕ) (classes : Classes) (r : ℕ) → p < places → least_of classes p ≡ r → members_from p (places - p) classes r ≡ p ∷ members_from (p + 1) (places - (p + 1)) classes r
member_here places p classes r lt is =
    let count : places - p ≡ suc (places - (p + 1)) = omega (arith, lt) in
    let here : (least_of classes p == r) ≡ true = eq-eqb (least_of classes p) r is in
    ap (λ n. members_from p n classes r) count ∙ rw here refl

set_here : (xs : List ℕ) (i v : ℕ) → i < length xs → slice_index (slice_set xs i v) i ≡ v
set_here xs i v lt = grind (arith, common_steps)

set_there : (xs : List ℕ) (i j v : ℕ) → (i ≢ j) → slice_index (slice_set xs i v) j ≡ slice_index xs j
set_there xs i j v apart = grind (arith, common_steps, apart)

-- equal or not
equal_or : (a b : ℕ) → (a ≡ b) ⊎ (a ≢ b)
equal_or a b =
    ⊎_elim
    (λ (less : a < b). inr (λ e. omega (arith, less, e)))
    (λ (ge : b ≤ a).
    ⊎_elim
    (λ (more : b < a). inr (λ e. omega (arith, more, e)))
    (λ (le : a ≤ b). inl (omega (arith, ge, le)))
    (cases_lt b a))
    (cases_lt a b)

next_after : (places p : ℕ) (classes : Classes) (next head : List ℕ) → p < places → AreLinked places classes (p + 1) next head → (q : ℕ) → p ≤ q → q < places → least_of classes p < places
    → IsNext places classes (least_of classes q) (q + 1) (slice_index (slice_set next p (slice_index head (least_of classes p))) q)
next_after places p classes next head lt linked q le within low =
    let v = slice_index head (least_of classes p) in
    ⊎_elim
    (λ (same : p ≡ q).
    subst (λ (i : ℕ). IsNext places classes (least_of classes i) (i + 1) (slice_index (slice_set next p v) i)) same
    (subst (IsNext places classes (least_of classes p) (p + 1)) (sym (set_here next p v (omega (arith, lt, linked.next_len)))) (linked.heads (least_of classes p) low)))
    (λ (apart : p ≢ q). subst (IsNext places classes (least_of classes q) (q + 1)) (sym (set_there next p q v apart)) (linked.nexts q (omega (arith, le, apart)) within))
    (equal_or p q)

head_after : (places p : ℕ) (classes : Classes) (next head : List ℕ) → p < places → AreLinked places classes (p + 1) next head → (s : ℕ) → s < places → least_of classes p < places
    → IsNext places classes s p (slice_index (slice_set head (least_of classes p) p) s)
head_after places p classes next head lt linked s within low =
    let r = least_of classes p in
    ⊎_elim
    (λ (same : r ≡ s).
    subst (λ (i : ℕ). IsNext places classes i p (slice_index (slice_set head r p) i)) same
    (subst (IsNext places classes r p) (sym (set_here head r p (omega (arith, low, linked.head_len)))) (record {
      at = omega arith;
      within = omega (arith, lt);
      member = λ x. refl;
      between = λ q ge less. absurd (omega (arith, ge, less));
    })))
    (λ (apart : r ≢ s).
    let h = linked.heads s within in
    subst (IsNext places classes s p) (sym (set_there head r s p apart)) (record {
      at = let le = h.at in omega (arith, le);
      within = h.within;
      member = h.member;
      between = λ q ge less.
          ⊎_elim
          (λ (same : p ≡ q). subst (λ (i : ℕ). least_of classes i ≢ s) same apart)
          (λ (other : p ≢ q). h.between q (omega (arith, ge, other)) less)
          (equal_or p q);
    }))
    (equal_or r s)

-- the links of one more place
pub one_linked : (places p : ℕ) (classes : Classes) (next head : List ℕ) → ArePartition places classes → p < places → AreLinked places classes (p + 1) next head
    → AreLinked places classes p (slice_set next p (slice_index head (least_of classes p))) (slice_set head (least_of classes p) p)
one_linked places p classes next head partition lt linked =
    let r = least_of classes p in
    let low = partition.lower p lt in
    record {
      next_len = grind (arith, common_steps, linked.next_len);
      head_len = grind (arith, common_steps, linked.head_len);
      nexts = λ q le within. next_after places p classes next head lt linked q le within (omega (arith, low, lt));
      heads = λ s within. head_after places p classes next head lt linked s within (omega (arith, low, lt));
    }

pub none_linked : (places : ℕ) (classes : Classes) (next head : List ℕ) → length next ≡ places → length head ≡ places → ((r : ℕ) → r < places → slice_index head r ≡ places) → AreLinked places classes places next head
none_linked places classes next head next_len head_len all = record {
  next_len = next_len;
  head_len = head_len;
  nexts = λ p le lt. absurd (omega (arith, le, lt));
  heads = λ r lt. subst (IsNext places classes r places) (sym (all r lt)) (record {
    at = omega arith;
    within = omega arith;
    member = λ x. absurd (omega (arith, x));
    between = λ q ge less. absurd (omega (arith, ge, less));
  });
}

-- least places are at or below their members, so none stands before the first
below : (places first : ℕ) (classes : Classes) → ArePartition places classes → first < places → (q : ℕ) → 0 ≤ q → q < first → least_of classes q ≢ first
below places first classes partition lt q ge less e = let low = partition.lower q (omega (arith, less, lt)) in omega (arith, e, low, less)

-- all of a class stands from its least place on
pub all_members : (places first : ℕ) (classes : Classes) → ArePartition places classes → first < places → members_from 0 places classes first ≡ members_from first (places - first) classes first
all_members places first classes partition lt =
    let whole : places ≡ places - 0 = omega arith in
    ap (λ n. members_from 0 n classes first) whole ∙ skip_to places 0 first classes first (omega arith) (omega (arith, lt)) (below places first classes partition lt)

-- a place that isn't its class's least has no members
pub no_members : (places first : ℕ) (classes : Classes) → ArePartition places classes → first < places → (least_of classes first ≢ first) → members_from 0 places classes first ≡ []
no_members places first classes partition lt apart =
    let whole : places ≡ places - 0 = omega arith in
    let none : places - places ≡ 0 = omega arith in
    ap (λ n. members_from 0 n classes first) whole
    ∙ skip_to places 0 places classes first (omega arith) (omega arith) (λ q ge less e. apart (subst (λ (r : ℕ). least_of classes r ≡ r) e (partition.fixed q less)))
    ∙ ap (λ n. members_from places n classes first) none

-- the first member and those past it
pub first_members : (places first next : ℕ) (classes : Classes) → first < places → least_of classes first ≡ first → IsNext places classes (least_of classes first) (first + 1) next
    → members_from first (places - first) classes first ≡ first ∷ members_from next (places - next) classes first
first_members places first next classes lt least is =
    member_here places first classes first lt least
    ∙ ap (λ ms. first ∷ ms) (skip_to places (first + 1) next classes first is.at is.within (λ q ge less. subst (λ (r : ℕ). least_of classes q ≢ r) least (is.between q ge less)))

pub long_line : (pair : Pair) (classes : Classes) (first a b : ℕ) (rest : List ℕ) → class_line_of pair classes first (a ∷ b ∷ rest) ≡ codes "class" ++ (flat_map (member_text pair classes first) (a ∷ b ∷ rest) ++ codes "\n")
long_line pair classes first a b rest = let long = le-ltb (length (a ∷ b ∷ rest)) 2 (omega arith) in rw long refl

-- the line of a class of two or more
pub line_of_more : (pair : Pair) (classes : Classes) (first next : ℕ) → ArePartition (places_of pair) classes → first < places_of pair → least_of classes first ≡ first
    → IsNext (places_of pair) classes (least_of classes first) (first + 1) next → (next ≢ places_of pair)
    → class_line pair classes first ≡ codes "class" ++ (members_text pair classes first first ++ codes "\n")
line_of_more pair classes first next partition lt least is more =
    let n = places_of pair in
    let within = is.within in
    let all = all_members n first classes partition lt in
    let two = first_members n first next classes lt least is ∙ ap (λ ms. first ∷ ms) (member_here n next classes first (omega (arith, within, more)) (is.member (omega (arith, within, more)) ∙ least)) in
    let rest = members_from (next + 1) (n - (next + 1)) classes first in
    ap (class_line_of pair classes first) (all ∙ two) ∙ long_line pair classes first first next rest ∙ ap (λ ms. codes "class" ++ (flat_map (member_text pair classes first) ms ++ codes "\n")) (sym two)

pub line_of_one : (pair : Pair) (classes : Classes) (first : ℕ) → ArePartition (places_of pair) classes → first < places_of pair → least_of classes first ≡ first
    → IsNext (places_of pair) classes (least_of classes first) (first + 1) (places_of pair) → class_line pair classes first ≡ []
line_of_one pair classes first partition lt least is =
    let n = places_of pair in
    let none : n - n ≡ 0 = omega arith in
    ap (class_line_of pair classes first) (all_members n first classes partition lt ∙ first_members n first n classes lt least is ∙ ap (λ m. first ∷ members_from n m classes first) none)

pub line_of_none : (pair : Pair) (classes : Classes) (first : ℕ) → ArePartition (places_of pair) classes → first < places_of pair → (least_of classes first ≢ first) → class_line pair classes first ≡ []
line_of_none pair classes first partition lt apart = ap (class_line_of pair classes first) (no_members (places_of pair) first classes partition lt apart)

-- one member, and those past it
pub one_member : (pair : Pair) (classes : Classes) (first p next : ℕ) → p < places_of pair → least_of classes p ≡ first → IsNext (places_of pair) classes (least_of classes p) (p + 1) next
    → members_text pair classes first p ≡ member_text pair classes first p ++ members_text pair classes first next
one_member pair classes first p next lt least is =
    let n = places_of pair in
    ap (flat_map (member_text pair classes first))
    (member_here n p classes first lt least
    ∙ ap (λ ms. p ∷ ms) (skip_to n (p + 1) next classes first is.at is.within (λ q ge less. subst (λ (r : ℕ). least_of classes q ≢ r) least (is.between q ge less))))

pub no_member : (pair : Pair) (classes : Classes) (first : ℕ) → members_text pair classes first (places_of pair) ≡ []
no_member pair classes first = let none : places_of pair - places_of pair ≡ 0 = omega arith in ap (λ m. flat_map (member_text pair classes first) (members_from (places_of pair) m classes first)) none
