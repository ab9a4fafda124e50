-- Where a line's numbers are read, the line ends.
use Rattle.std.proofs.Common.{◌≡◌, ℕ, zero, suc, ◌+◌, ◌-◌, ◌<◌, ◌≤◌, ◌⊎◌, inl, inr, Bool, true, false, cond, eqb, List, [], ◌∷◌, length, drop, get_or, Option, Some, None, refl, sym, ap, ◌∙◌, arith, leb}
use Rattle.std.specs.Prelude.{Ok}
use Rattle.std.proofs.lemmas.Bool.{eq-eqb, eqb-true, le-leb}
use Rattle.std.proofs.lemmas.List.{get_or-drop}
use Rattle.plain_text.specs.Numbers.{digits, capped, value_from, number_of, number_at}
use Rattle.plain_text.proofs.Choices.{chosen}
use Rattle.aiger_codec.specs.Lines.{has_end, before_others, after_number, numbers_at, line_at}

pub ends_here : (bytes : List ℕ) (k : ℕ) → get_or bytes k 0 ≡ 10 → has_end bytes ≡ true
ends_here [] k e = absurd (omega arith)
ends_here (b ∷ bs) zero e = let h = eq-eqb b 10 e in rw h refl
ends_here (b ∷ bs) (suc k) e = let h = ends_here bs k e in either (eqb b 10) h
  where
    either : (c : Bool) → has_end bs ≡ true → cond c true (has_end bs) ≡ true
    either true h = refl
    either false h = h

pub some_is : {A : Type 0} (x y : A) → Some x ≡ Some y → x ≡ y
some_is x y e = cc

of_digits : (ds : List ℕ) (at n end : ℕ) → number_of ds at ≡ Some (n, end) → at < end
of_digits [] at n end e = absurd cc
of_digits (d ∷ ds) at n end e = let h : at + length (d ∷ ds) ≡ end = ap (λ (p : ℕ × ℕ). p.1) (some_is (capped (value_from 0 (d ∷ ds)), at + length (d ∷ ds)) (n, end) e) in omega arith

pub number_after : (bytes : List ℕ) (at n end : ℕ) → number_at bytes at ≡ Some (n, end) → at < end
unfolding number_at
number_after bytes at n end e = of_digits (digits (drop at bytes)) at n end e

-- what numbers that were read say of their first
pub record First (bytes : List ℕ) (more at : ℕ) (x : List ℕ × ℕ) : Type 0 where
  pub value : ℕ
  pub end : ℕ
  pub number : number_at bytes at ≡ Some (value, end)
  pub goes : ((get_or bytes end 0 ≡ 10) × (x ≡ (value ∷ [], end + 1)))
      ⊎ ((get_or bytes end 0 ≡ 32) × (before_others value (numbers_at more bytes (end + 1)) ≡ Some x))

after_is : (bytes : List ℕ) (more at : ℕ) (r : Option (ℕ × ℕ)) (x : List ℕ × ℕ) → number_at bytes at ≡ r → after_number bytes (numbers_at more bytes) r ≡ Some x → First bytes more at x
after_is bytes more at None x is e = absurd cc
after_is bytes more at (Some n) x is e =
    elim (chosen (eqb (get_or bytes n.1 0) 10) _ _ (Some x) e) [
      | inl p ↦ record { value = n.0; end = n.1; number = is; goes = inl (eqb-true _ _ p.0, sym (some_is _ _ p.1)) }
      | inr p ↦
          elim (chosen (eqb (get_or bytes n.1 0) 32) _ _ (Some x) p.1) [
            | inl q ↦ record { value = n.0; end = n.1; number = is; goes = inr (eqb-true _ _ q.0, q.1) }
            | inr q ↦ absurd (no_some q.1)
          ]
    ]
  where
    no_some : {A : Type 0} {x : A} → None ≡ Some x → ⊥
    no_some e = cc

pub first_of : (bytes : List ℕ) (more at : ℕ) (x : List ℕ × ℕ) → numbers_at (suc more) bytes at ≡ Some x → First bytes more at x
unfolding numbers_at
first_of bytes more at x e = after_is bytes more at (number_at bytes at) x refl e

pub others_of : (n : ℕ) (r : Option (List ℕ × ℕ)) (x : List ℕ × ℕ) → before_others n r ≡ Some x → (y : List ℕ × ℕ) × (r ≡ Some y) × (x ≡ (n ∷ y.0, y.1))
others_of n None x e = absurd cc
others_of n (Some y) x e = (y, refl, sym (some_is _ _ e))

-- numbers that were read end by LF, before the place after them
pub read_ends : (most : ℕ) (bytes : List ℕ) (at : ℕ) (x : List ℕ × ℕ) → numbers_at most bytes at ≡ Some x → (k : ℕ) × (at < k) × (get_or bytes k 0 ≡ 10) × (x.1 ≡ k + 1)
unfolding numbers_at
read_ends zero bytes at x e = absurd cc
read_ends (suc more) bytes at x e =
    let f = first_of bytes more at x e in
    let lt = number_after bytes at f.value f.end f.number in
    elim f.goes [
      | inl p ↦ (f.end, lt, p.0, ap (λ (y : List ℕ × ℕ). y.1) p.1)
      | inr p ↦
          let o = others_of f.value (numbers_at more bytes (f.end + 1)) x p.1 in
          let h = read_ends more bytes (f.end + 1) o.0 o.1 in
          (h.0, omega (arith, h.1), h.2, ap (λ (y : List ℕ × ℕ). y.1) o.2 ∙ h.3)
    ]

pub line_read : (least most : ℕ) (bytes : List ℕ) (at : ℕ) (x : List ℕ × ℕ) → numbers_at most bytes at ≡ Some x → least ≤ length x.0 → line_at least most bytes at ≡ Ok x
unfolding line_at
line_read least most bytes at x e le =
    let h = read_ends most bytes at x e in
    let k : h.0 ≡ at + (h.0 - at) = omega (arith, h.1) in
    let there : get_or (drop at bytes) (h.0 - at) 0 ≡ 10 = get_or-drop at bytes (h.0 - at) 0 ∙ ap (λ (i : ℕ). get_or bytes i 0) (sym k) ∙ h.2 in
    let a : has_end (drop at bytes) ≡ true = ends_here (drop at bytes) (h.0 - at) there in
    let b : leb least (length x.0) ≡ true = le-leb _ _ le in
    rw (a, e, b) refl
