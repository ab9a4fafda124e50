-- Variables that are numbered in turn, and pairs that are put in order.
use Rattle.std.proofs.Common.{◌≡◌, ◌∙◌, ◌<◌, ◌≤◌, ◌+◌, ⊎_elim, ℕ, zero, suc, List, [], ◌∷◌, ◌++◌, max, min, map, length, get_or, refl, ap, ap₂, sym, subst, arith}
use Rattle.std.specs.List.{All, range_with_len}
use Rattle.std.proofs.lemmas.Bool.{cases_lt}
use Rattle.std.proofs.lemmas.List.{length-map, get_or-map}
use Rattle.std.proofs.Math.Nat.{max-eq_left, max-eq_right, min-eq_left, min-eq_right}

pub in_turn : {X : Type 0} (f : X → ℕ) (xs : List X) (a : ℕ) (d : X) → ((k : ℕ) → k < length xs → f (get_or xs k d) ≡ a + k) → map f xs ≡ range_with_len a (length xs)
in_turn f [] a d e = refl
in_turn f (x ∷ xs) a d e =
    let first : f x ≡ a = let h = e 0 (omega arith) in omega arith in
    ap₂ (λ (y : ℕ) (ys : List ℕ). y ∷ ys) first (in_turn f xs (a + 1) d (λ k lt. let h = e (suc k) (omega arith) in omega arith))

pub range_append : (a m n : ℕ) → range_with_len a m ++ range_with_len (a + m) n ≡ range_with_len a (m + n)
range_append a zero n =
    let here : a + 0 ≡ a = omega arith in
    let all : n ≡ 0 + n = omega arith in
    ap (λ (k : ℕ). range_with_len k n) here ∙ ap (range_with_len a) all
range_append a (suc m) n =
    let here : a + suc m ≡ a + 1 + m = omega arith in
    let all : suc (m + n) ≡ suc m + n = omega arith in
    ap (λ (k : ℕ). a ∷ (range_with_len (a + 1) m ++ range_with_len k n)) here ∙ ap (λ (l : List ℕ). a ∷ l) (range_append (a + 1) m n) ∙ ap (range_with_len a) all

pub all_mapped : {X Y : Type 0} (P : Y → Type 0) (f : X → Y) (xs : List X) (d : X) → ((k : ℕ) → k < length xs → P (f (get_or xs k d))) → All P (map f xs)
all_mapped P f xs d each = λ k e lt.
    let less : k < length xs = omega (arith, length-map xs f) in
    subst P (sym (get_or-map f xs k d e less)) (each k less)

-- what holds of two numbers holds of the greater and the lesser
pub both : (P : ℕ → Type 0) (a b : ℕ) → P a → P b → P (max a b) × P (min a b)
both P a b x y =
    ⊎_elim (λ (h : a < b). (subst P (sym (max-eq_right (omega arith))) y, subst P (sym (min-eq_left (omega arith))) x))
    (λ (h : b ≤ a). (subst P (sym (max-eq_left h)) x, subst P (sym (min-eq_right h)) y))
    (cases_lt a b)

-- the greater and the lesser in place of two numbers, where their order is nothing
pub swapped : (f : ℕ → ℕ → ℕ) (a b : ℕ) → f a b ≡ f b a → f (max a b) (min a b) ≡ f a b
swapped f a b same =
    ⊎_elim (λ (h : a < b). ap₂ f (max-eq_right (omega arith)) (min-eq_left (omega arith)) ∙ sym same)
    (λ (h : b ≤ a). ap₂ f (max-eq_left h) (min-eq_right h))
    (cases_lt a b)
