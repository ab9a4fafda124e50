-- Numbers of a line, one after the other.
use Rattle.std.proofs.Common.{◌≡◌, ℕ, suc, ◌+◌, ◌-◌, ◌<◌, ◌≤◌, ◌≢◌, List, [], ◌∷◌, ◌++◌, get_or, Option, Some, None, refl, sym, ap, ◌∙◌, arith, append_assoc}
use Rattle.std.proofs.lemmas.Bool.{eq-eqb, ne_eqb}
use Rattle.plain_text.specs.Numbers.{number_at}
use Rattle.aiger_codec.specs.Lines.{before_others, numbers_at}

abbrev pub with_front : List ℕ → Option (List ℕ × ℕ) → Option (List ℕ × ℕ)
with_front front None = None
with_front front (Some x) = Some (front ++ x.0, x.1)

-- one more step of what is still read
pub record Steps (bytes front : List ℕ) (most i at : ℕ) (total : Option (List ℕ × ℕ)) : Type 0 where
  pub so_far : with_front front (numbers_at (most - i) bytes at) ≡ total

pub steps_first : (bytes front : List ℕ) (most at : ℕ) → front ≡ [] → Steps bytes front most 0 at (numbers_at most bytes at)
steps_first bytes front most at e = record { so_far = let k : most - 0 ≡ most = omega arith in rw (k, e) (nothing_before (numbers_at most bytes at)) }
  where
    nothing_before : (r : Option (List ℕ × ℕ)) → with_front [] r ≡ r
    nothing_before None = refl
    nothing_before (Some x) = refl

pub steps_end : (bytes front : List ℕ) (most i at : ℕ) (total : Option (List ℕ × ℕ)) → Steps bytes front most i at total → most ≤ i → total ≡ None
unfolding numbers_at
steps_end bytes front most i at total s le = let k : most - i ≡ 0 = omega arith in sym s.so_far ∙ rw k refl

pub steps_none : (bytes front : List ℕ) (most i at : ℕ) (total : Option (List ℕ × ℕ)) → Steps bytes front most i at total → i < most → number_at bytes at ≡ None → total ≡ None
unfolding numbers_at
steps_none bytes front most i at total s lt n = let k : most - i ≡ suc (most - (i + 1)) = omega arith in sym s.so_far ∙ rw (k, n) refl

pub steps_other : (bytes front : List ℕ) (most i at n end : ℕ) (total : Option (List ℕ × ℕ)) → Steps bytes front most i at total → i < most → number_at bytes at ≡ Some (n, end)
    → get_or bytes end 0 ≢ 10 → get_or bytes end 0 ≢ 32 → total ≡ None
unfolding numbers_at
steps_other bytes front most i at n end total s lt is a b =
    let k : most - i ≡ suc (most - (i + 1)) = omega arith in
    let f = ne_eqb _ _ a in let g = ne_eqb _ _ b in
    sym s.so_far ∙ rw (k, is, f, g) refl

pub steps_last : (bytes front : List ℕ) (most i at n end : ℕ) (total : Option (List ℕ × ℕ)) → Steps bytes front most i at total → i < most → number_at bytes at ≡ Some (n, end)
    → get_or bytes end 0 ≡ 10 → total ≡ Some (front ++ n ∷ [], end + 1)
unfolding numbers_at
steps_last bytes front most i at n end total s lt is a =
    let k : most - i ≡ suc (most - (i + 1)) = omega arith in
    let f = eq-eqb _ _ a in
    sym s.so_far ∙ rw (k, is, f) refl

regroup : (front : List ℕ) (n : ℕ) (r : Option (List ℕ × ℕ)) → with_front front (before_others n r) ≡ with_front (front ++ n ∷ []) r
regroup front n None = refl
regroup front n (Some x) = ap (λ (l : List ℕ). Some (l, x.1)) (sym (append_assoc front (n ∷ []) x.0))

pub steps_more : (bytes front : List ℕ) (most i at n end : ℕ) (total : Option (List ℕ × ℕ)) → Steps bytes front most i at total → i < most → number_at bytes at ≡ Some (n, end)
    → get_or bytes end 0 ≡ 32 → Steps bytes (front ++ n ∷ []) most (i + 1) (end + 1) total
unfolding numbers_at
steps_more bytes front most i at n end total s lt is a =
    let k : most - i ≡ suc (most - (i + 1)) = omega arith in
    let d : get_or bytes end 0 ≢ 10 = λ e. omega arith in
    let f = ne_eqb _ _ d in let g = eq-eqb _ _ a in
    let one : with_front front (numbers_at (most - i) bytes at) ≡ with_front (front ++ n ∷ []) (numbers_at (most - (i + 1)) bytes (end + 1)) = rw (k, is, f, g) (regroup front n (numbers_at (most - (i + 1)) bytes (end + 1))) in
    record { so_far = sym one ∙ s.so_far }
