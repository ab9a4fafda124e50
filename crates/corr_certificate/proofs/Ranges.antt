-- Numbers in order.
use Rattle.std.proofs.Common.{◌≡◌, ◌∙◌, ◌<◌, ◌≤◌, ℕ, zero, suc, ◌+◌, ◌-◌, List, [], ◌∷◌, ◌++◌, ap, sym, arith, refl}
use Rattle.std.specs.List.{range_with_len}

pub range_push : (a n m : ℕ) → m ≡ suc n → range_with_len a n ++ (a + n) ∷ [] ≡ range_with_len a m
range_push a zero m e = let z : a + 0 ≡ a = omega arith in ap (λ (k : ℕ). k ∷ []) z ∙ ap (range_with_len a) (sym e)
range_push a (suc n) m e =
    let k : a + suc n ≡ (a + 1) + n = omega arith in
    ap (λ (i : ℕ). a ∷ (range_with_len (a + 1) n ++ i ∷ [])) k ∙ ap (λ (l : List ℕ). a ∷ l) (range_push (a + 1) n (suc n) refl) ∙ ap (range_with_len a) (sym e)

pub range_more : (n : ℕ) → range_with_len 0 n ++ n ∷ [] ≡ range_with_len 0 (n + 1)
range_more n = let e : n ≡ 0 + n = omega arith in ap (λ (m : ℕ). range_with_len 0 n ++ m ∷ []) e ∙ range_push 0 n (n + 1) (omega arith)

-- what is left from a place on
pub range_left : (p n : ℕ) → p < n → range_with_len p (n - p) ≡ p ∷ range_with_len (p + 1) (n - (p + 1))
range_left p n lt = let e : n - p ≡ suc (n - (p + 1)) = omega arith in ap (range_with_len p) e

pub range_none : (p n : ℕ) → n ≤ p → range_with_len p (n - p) ≡ []
range_none p n e = let z : n - p ≡ 0 = omega arith in ap (range_with_len p) z
