-- The members of open pairs, one place more at a time.
use Rattle.std.proofs.Common.{◌≡◌, ◌∙◌, ◌<◌, ◌≤◌, ◌⊎◌, ◌++◌, ◌∷◌, ◌+◌, ℕ, zero, suc, Bool, true, false, cond, List, [], length, filter, take, sym, ap, arith, ⊎_elim, append-nil, length-append, ◌==◌, not, true≢false, eq-eqb, slice_index_or}
use Rattle.std.specs.List.{range_with_len}
use Rattle.std.proofs.lemmas.Bool.{and_parts}
use Rattle.std.proofs.lemmas.List.{length-take, take_all, take-append-le}
use Rattle.std.proofs.lemmas.List.Elements.{filter-append}
use Rattle.class_partition.specs.Classes.{Classes, IsNeeded, least_of}
use Rattle.refine_board.specs.declared.marks.Mark.{Mark}
use Rattle.refine_board.specs.declared.marks.Mark.TheVariants.{Open}
use Rattle.refine_board.specs.States.{is_open, is_open_at}

pub range_more : (from n : ℕ) → range_with_len from (n + 1) ≡ range_with_len from n ++ (from + n) ∷ []
range_more from zero = let e : from ≡ from + 0 = omega arith in ap (λ (m : ℕ). m ∷ []) e
range_more from (suc n) =
    let e : (from + 1) + n ≡ from + suc n = omega arith in
    let s : suc n + 1 ≡ suc (n + 1) = omega arith in
    ap (range_with_len from) s ∙ ap (λ (l : List ℕ). from ∷ l) (range_more (from + 1) n ∙ ap (λ (m : ℕ). range_with_len (from + 1) n ++ m ∷ []) e)

-- those up to a place, and it where it is one
filter_more : (f : ℕ → Bool) (p : ℕ) → filter f (range_with_len 0 (p + 1)) ≡ filter f (range_with_len 0 p) ++ cond (f p) (p ∷ []) []
filter_more f p = let e : 0 + p ≡ p = omega arith in ap (filter f) (range_more 0 p) ∙ filter-append f (range_with_len 0 p) ((0 + p) ∷ []) ∙ ap (λ (m : ℕ). filter f (range_with_len 0 p) ++ cond (f m) (m ∷ []) []) e

-- a place that is none, or that comes when there are as many as are wanted
pub none_more : (f : ℕ → Bool) (most p : ℕ) (xs : List ℕ) → xs ≡ take most (filter f (range_with_len 0 p)) → (f p ≡ false) ⊎ (most ≤ length xs) → xs ≡ take most (filter f (range_with_len 0 (p + 1)))
none_more f most p xs is why =
    let l : List ℕ = filter f (range_with_len 0 p) in
    is ∙ sym (ap (take most) (filter_more f p) ∙ ⊎_elim
    (λ (e : f p ≡ false). ap (λ (b : Bool). take most (l ++ cond b (p ∷ []) [])) e ∙ ap (take most) (append-nil l))
    (λ (full : most ≤ length xs). take-append-le most l (cond (f p) (p ∷ []) []) (omega (arith, full, ap length is, length-take most l)))
    why)

-- one that is taken in
pub one_more : (f : ℕ → Bool) (most p : ℕ) (xs ys : List ℕ) → xs ≡ take most (filter f (range_with_len 0 p)) → f p ≡ true → length xs < most → ys ≡ xs ++ p ∷ [] → ys ≡ take most (filter f (range_with_len 0 (p + 1)))
one_more f most p xs ys is on room more =
    let l : List ℕ = filter f (range_with_len 0 p) in
    let few : length l < most = omega (arith, room, ap length is, length-take most l) in
    let whole : xs ≡ l = is ∙ take_all most l (omega (arith, few)) in
    more ∙ ap (λ (x : List ℕ). x ++ p ∷ []) whole ∙ sym (ap (take most) (filter_more f p ∙ ap (λ (b : Bool). l ++ cond b (p ∷ []) []) on) ∙ take_all most (l ++ p ∷ []) (omega (arith, few, length-append l (p ∷ []))))

-- a place that is open is one that is needed
pub open_needed : (classes : Classes) (marks : List Mark) (p : ℕ) → p < length classes.least → is_open_at classes marks p ≡ true → IsNeeded (length classes.least) classes p
open_needed classes marks p lt on = (lt, λ (e : least_of classes p ≡ p). true≢false (sym (and_parts (not (least_of classes p == p)) (is_open (slice_index_or marks p Open)) on).0 ∙ ap not (eq-eqb (least_of classes p) p e)))
