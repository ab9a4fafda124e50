-- The list of the needed pairs: its literals are within the places, and it holds in a row where the classes do.
use Rattle.std.proofs.Common.{◌≡◌, ◌≢◌, ◌∙◌, ◌<◌, ◌+◌, ◌-◌, ℕ, zero, suc, List, [], ◌∷◌, ◌++◌, length, get_or, refl, ap, sym, subst, arith, Bool, true, false, if◌then◌else◌, length-append, zero-add}
use Rattle.std.specs.Prelude.{flat_map}
use Rattle.std.specs.List.{range_with_len, All}
use Rattle.std.proofs.lemmas.Bool.{eqb-true, eq-eqb, false≢true}
use Rattle.std.proofs.lemmas.List.{get_or_append_left, get_or-append_right}
use Rattle.std.proofs.lemmas.List.Elements.{All-append, All-cons, All-head, All-nil}
use Rattle.circ_model.specs.Meaning.{literal, signed, value_in}
use Rattle.circ_model.specs.Correspondence.{HoldsIn}
use Rattle.circ_model.proofs.Literals.{half_literal}
use Rattle.class_partition.specs.Classes.{Classes, ArePartition, least_of, phase_of, needed, is_least, HoldIn}
use Rattle.class_partition.proofs.Signs.{signed-self}
use Rattle.frame_unroll.specs.Members.{member_pair, member_pairs}
use Rattle.frame_unroll.proofs.Questions.{AreWithin}

-- what holds of each piece holds of the whole, and back
pub all_pieces : {X : Type 0} (P : X → Type 0) (f : ℕ → List X) (from n : ℕ) → ((i : ℕ) → i < n → All P (f (from + i))) → All P (flat_map f (range_with_len from n))
all_pieces P f from zero h = All-nil P
all_pieces P f from (suc n) h =
    let e : from + 0 ≡ from = omega arith in
    All-append P (f from) (flat_map f (range_with_len (from + 1) n)) (subst (λ (m : ℕ). All P (f m)) e (h 0 (omega arith)))
    (all_pieces P f (from + 1) n (λ i lt. let s : from + suc i ≡ (from + 1) + i = omega arith in subst (λ (m : ℕ). All P (f m)) s (h (suc i) (omega arith))))

front : {X : Type 0} (P : X → Type 0) (xs ys : List X) → All P (xs ++ ys) → All P xs
front P xs ys h k d lt = let l = length-append xs ys in subst P (get_or_append_left xs ys d k lt) (h k d (omega arith))

back : {X : Type 0} (P : X → Type 0) (xs ys : List X) → All P (xs ++ ys) → All P ys
back P xs ys h k d lt =
    let l = length-append xs ys in
    let e : (length xs + k) - length xs ≡ k = omega arith in
    subst P (get_or-append_right xs ys (length xs) (length xs + k) d refl (omega arith) ∙ ap (λ (m : ℕ). get_or ys m d) e) (h (length xs + k) d (omega arith))

each_piece : {X : Type 0} (P : X → Type 0) (f : ℕ → List X) (from n : ℕ) → All P (flat_map f (range_with_len from n)) → (i : ℕ) → i < n → All P (f (from + i))
each_piece P f from zero h i lt = absurd (omega arith)
each_piece P f from (suc n) h zero lt =
    let e : from ≡ from + 0 = omega arith in
    subst (λ (m : ℕ). All P (f m)) e (front P (f from) (flat_map f (range_with_len (from + 1) n)) h)
each_piece P f from (suc n) h (suc i) lt =
    let s : (from + 1) + i ≡ from + suc i = omega arith in
    subst (λ (m : ℕ). All P (f m)) s (each_piece P f (from + 1) n (back P (f from) (flat_map f (range_with_len (from + 1) n)) h) i (omega arith))

-- literals of the places
pub members_within : (n : ℕ) (classes : Classes) → ArePartition n classes → All (AreWithin n) (member_pairs n classes)
members_within n classes is = all_pieces (AreWithin n) (member_pair classes) 0 n (λ i lt. let z = zero-add i in by (0 + i) (omega arith) (is_least classes (0 + i)))
  where
    by : (p : ℕ) → p < n → (b : Bool) → All (AreWithin n) (if b then [] else needed classes p ∷ [])
    by p lt true = All-nil (AreWithin n)
    by p lt false =
        let low = is.lower p lt in
        let sign : Bool = signed (phase_of classes (least_of classes p)) (phase_of classes p) in
        All-cons (AreWithin n) (needed classes p) [] (omega (arith, half_literal (least_of classes p) false), omega (arith, half_literal p sign)) (All-nil (AreWithin n))

-- a pair is that of a place that isn't the least of its class
abbrev pub IsOfMember : ℕ → Classes → ℕ × ℕ → Type 0
IsOfMember n classes p = (q : ℕ) × (q < n) × (least_of classes q ≢ q) × (p ≡ needed classes q)

pub members_are : (n : ℕ) (classes : Classes) → All (IsOfMember n classes) (member_pairs n classes)
members_are n classes = all_pieces (IsOfMember n classes) (member_pair classes) 0 n (λ i lt. let z = zero-add i in by (0 + i) (omega arith) (is_least classes (0 + i)) refl)
  where
    by : (p : ℕ) → p < n → (b : Bool) → is_least classes p ≡ b → All (IsOfMember n classes) (if b then [] else needed classes p ∷ [])
    by p lt true e = All-nil (IsOfMember n classes)
    by p lt false e =
        let not_least : least_of classes p ≢ p = λ same. false≢true (sym e ∙ eq-eqb (least_of classes p) p same) in
        All-cons (IsOfMember n classes) (needed classes p) [] (p, lt, not_least, refl) (All-nil (IsOfMember n classes))

-- a least place holds with itself
itself : (classes : Classes) (row : List Bool) (p : ℕ) → least_of classes p ≡ p → HoldsIn row (needed classes p)
itself classes row p e =
    ap (λ (q : ℕ). value_in row (literal q false)) e
    ∙ ap (λ (s : Bool). value_in row (literal p s)) (sym (signed-self (phase_of classes p)))
    ∙ ap (λ (q : ℕ). value_in row (literal p (signed (phase_of classes q) (phase_of classes p)))) (sym e)

pub members_to : (n : ℕ) (classes : Classes) (row : List Bool) → All (HoldsIn row) (member_pairs n classes) → HoldIn n classes row
members_to n classes row h p lt =
    let z = zero-add p in
    by (is_least classes p) refl (subst (λ (m : ℕ). All (HoldsIn row) (member_pair classes m)) z (each_piece (HoldsIn row) (member_pair classes) 0 n h p lt))
  where
    by : (b : Bool) → is_least classes p ≡ b → All (HoldsIn row) (if b then [] else needed classes p ∷ []) → HoldsIn row (needed classes p)
    by true e all = itself classes row p (eqb-true (least_of classes p) p e)
    by false e all = All-head (HoldsIn row) (needed classes p) [] all

pub members_from : (n : ℕ) (classes : Classes) (row : List Bool) → HoldIn n classes row → All (HoldsIn row) (member_pairs n classes)
members_from n classes row h = all_pieces (HoldsIn row) (member_pair classes) 0 n (λ i lt. let z = zero-add i in by (0 + i) (omega arith) (is_least classes (0 + i)))
  where
    by : (p : ℕ) → p < n → (b : Bool) → All (HoldsIn row) (if b then [] else needed classes p ∷ [])
    by p lt true = All-nil (HoldsIn row)
    by p lt false = All-cons (HoldsIn row) (needed classes p) [] (h p lt) (All-nil (HoldsIn row))
