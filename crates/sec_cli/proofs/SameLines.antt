-- Class lines are determined by the greatest correspondence: whichever classes have it, they are spelled the same.
use Rattle.std.proofs.Common.{◌≡◌, ◌∙◌, ◌<◌, ◌≤◌, ◌+◌, ◌==◌, ℕ, zero, suc, Bool, true, false, cond, List, [], ◌∷◌, ◌++◌, length, if◌then◌else◌, refl, ap, ap₂, sym, subst, arith, eqb-true, ltb, codes, filter, flat_map}
use Rattle.std.specs.List.{range_with_len}
use Rattle.circ_model.specs.Meaning.{Pair, signed, literal, places_of}
use Rattle.circ_model.proofs.Literals.{half_literal, value_of_literal}
use Rattle.class_partition.specs.Classes.{Classes, least_of, phase_of, ArePartition, AreTogether, AreOfGreatest}
use Rattle.class_partition.proofs.SameClasses.{pairs_of_places, same_classes, together_in_classes, together_in_greatest}
use Rattle.class_text.specs.ClassLines.{class_line, class_lines, member_text, name_of}
use Rattle.product_machine.specs.Signals.{signal_at}

sign_is : (s x y : Bool) → x ≡ signed s y → signed x y ≡ s
sign_is true true true e = cc
sign_is true true false e = refl
sign_is true false true e = refl
sign_is true false false e = cc
sign_is false true true e = refl
sign_is false true false e = cc
sign_is false false true e = cc
sign_is false false false e = refl

-- the texts of what passes a test among so many numbers from one on
texts_same : (f g : ℕ → List ℕ) (test : ℕ → Bool) (from n : ℕ) → ((x : ℕ) → x < from + n → test x ≡ true → f x ≡ g x)
    → flat_map f (filter test (range_with_len from n)) ≡ flat_map g (filter test (range_with_len from n))
texts_same f g test from zero h = refl
texts_same f g test from (suc n) h = go (test from) refl (texts_same f g test (from + 1) n (λ x lt e. h x (omega arith) e))
  where
    go : (b : Bool) → test from ≡ b → flat_map f (filter test (range_with_len (from + 1) n)) ≡ flat_map g (filter test (range_with_len (from + 1) n))
        → flat_map f (cond b (from ∷ filter test (range_with_len (from + 1) n)) (filter test (range_with_len (from + 1) n))) ≡ flat_map g (cond b (from ∷ filter test (range_with_len (from + 1) n)) (filter test (range_with_len (from + 1) n)))
    go true e rest = ap₂ (λ (xs ys : List ℕ). xs ++ ys) (h from (omega arith) e) rest
    go false e rest = rest

-- the same of all numbers
all_same : (f g : ℕ → List ℕ) (from n : ℕ) → ((x : ℕ) → f x ≡ g x) → flat_map f (range_with_len from n) ≡ flat_map g (range_with_len from n)
all_same f g from zero h = refl
all_same f g from (suc n) h = ap₂ (λ (xs ys : List ℕ). xs ++ ys) (h from) (all_same f g (from + 1) n h)

module _ (pair : Pair) (k : ℕ) (a b : Classes) (is_a : ArePartition (places_of pair) a) (is_b : ArePartition (places_of pair) b) (of_a : AreOfGreatest pair k a) (of_b : AreOfGreatest pair k b) where
  -- the classes of the one with the phases of the other
  abbrev mixed : Classes
  mixed = record { least = a.least; phase = b.phase }

  least_same : mixed ≡ b
  least_same = same_classes (places_of pair) mixed b (record { least_len = is_a.least_len; phase_len = is_b.phase_len; lower = is_a.lower; fixed = is_a.fixed }) is_b refl
      (λ p q lp lq h. together_in_classes pair k b of_b.keeps p q (together_in_greatest pair k a of_a p q lp lq h))
      (λ p q lp lq h. together_in_classes pair k a of_a.keeps p q (together_in_greatest pair k b of_b p q lp lq h))

  -- members of a class have one relative phase
  sign_same : (p q : ℕ) → p < places_of pair → q < places_of pair → AreTogether a p q → signed (phase_of a p) (phase_of a q) ≡ signed (phase_of b p) (phase_of b q)
  sign_same p q lp lq h =
      let s : Bool = signed (phase_of a p) (phase_of a q) in
      let reached = of_a.reaches (literal p false) (literal q s) (subst (λ (n : ℕ). n < places_of pair) (sym (half_literal p false)) lp) (subst (λ (n : ℕ). n < places_of pair) (sym (half_literal q s)) lq) (pairs_of_places a p q h) in
      let held = (of_b.keeps (literal p false) (literal q s) reached).1 in
      sym (sign_is s (phase_of b p) (phase_of b q) (sym (value_of_literal b.phase p false) ∙ held ∙ value_of_literal b.phase q s))

  member_same : (first p : ℕ) → p < places_of pair → (least_of a p == first) ≡ true → member_text pair a first p ≡ member_text pair mixed first p
  member_same first p lt e =
      let at : least_of a p ≡ first = eqb-true (least_of a p) first e in
      let low : least_of a p ≤ p = is_a.lower p lt in
      let below : first < places_of pair = omega arith in
      let together : AreTogether a first p = subst (λ (q : ℕ). least_of a q ≡ least_of a p) at (is_a.fixed p lt) in
      ap (λ (s : Bool). codes " " ++ ((if s then codes "!" else []) ++ name_of (signal_at pair p))) (sign_same first p below lt together)

  line_same : (first : ℕ) → class_line pair a first ≡ class_line pair mixed first
  line_same first =
      let ms : List ℕ = filter (λ p. least_of a p == first) (range_with_len 0 (places_of pair)) in
      ap (λ (text : List ℕ). if ltb (length ms) 2 then [] else codes "class" ++ (text ++ codes "\n"))
      (texts_same (member_text pair a first) (member_text pair mixed first) (λ p. least_of a p == first) 0 (places_of pair) (λ p lt e. member_same first p (omega arith) e))

  pub lines_same : class_lines pair a ≡ class_lines pair b
  lines_same = all_same (class_line pair a) (class_line pair mixed) 0 (places_of pair) line_same ∙ ap (class_lines pair) least_same
