-- How often a claim stands in a list, and in the lists of all views.
use Rattle.std.proofs.Common.{◌≡◌, ◌≢◌, ◌⊎◌, ℕ, zero, suc, ◌+◌, ◌≤◌, ◌==◌, List, [], ◌∷◌, ◌++◌, Bool, true, false, true≢false, set, refl, sym, ap, ap₂, ◌∙◌, inl, inr, ⊎_elim, arith, eqb-true, eq-eqb, if◌then◌else◌, Some, slice_get}
use mathlib.Core.Option.{some, some-injective, some-ne-none}
use lib.ListN.{get_elem?}
use Rattle.claim_word.specs.declared.view.View.{View}
use Rattle.claim_word.specs.Steps.{is_same, times, claimed}

pub times-append : (c : ℕ × ℕ) (xs ys : List (ℕ × ℕ)) → times c (xs ++ ys) ≡ times c xs + times c ys
times-append c [] ys = omega arith
times-append c (x ∷ xs) ys = let h = times-append c xs ys in omega arith

pub times-push : (c : ℕ × ℕ) (xs : List (ℕ × ℕ)) (d : ℕ × ℕ) → times c (xs ++ d ∷ []) ≡ times c xs + (if is_same c d then 1 else 0)
times-push c xs d = let h = times-append c xs (d ∷ []) in omega arith

-- the two cases of a claim beside another
pub same_or_not : (c d : ℕ × ℕ) → ((is_same c d ≡ true) × (c ≡ d)) ⊎ ((is_same c d ≡ false) × (c ≢ d))
same_or_not c d = by_first (c.0 == d.0) (c.1 == d.1) refl refl
  where
    by_first : (a b : Bool) → (c.0 == d.0) ≡ a → (c.1 == d.1) ≡ b → ((is_same c d ≡ true) × (c ≡ d)) ⊎ ((is_same c d ≡ false) × (c ≢ d))
    by_first true true e f = inl (rw (e, f) refl, ap₂ (λ (x y : ℕ). (x, y)) (eqb-true c.0 d.0 e) (eqb-true c.1 d.1 f))
    by_first true false e f = inr (rw (e, f) refl, λ h. true≢false (sym (eq-eqb c.1 d.1 (ap (λ (p : ℕ × ℕ). p.1) h)) ∙ f))
    by_first false b e f = inr (rw e refl, λ h. true≢false (sym (eq-eqb c.0 d.0 (ap (λ (p : ℕ × ℕ). p.0) h)) ∙ e))

-- a value that is there is one
pub same_some : (c d : ℕ × ℕ) → Some c ≡ Some d → c ≡ d
same_some c d e = cc

-- a claim in the list is counted
pub times_there : (xs : List (ℕ × ℕ)) (k : ℕ) (c : ℕ × ℕ) → slice_get xs k ≡ Some c → 1 ≤ times c xs
times_there [] k c e = absurd (cc)
times_there (x ∷ xs) zero c e = ⊎_elim
    (λ (h : (is_same c x ≡ true) × (c ≡ x)). rw h.0 (omega arith))
    (λ (h : (is_same c x ≡ false) × (c ≢ x)). absurd (h.1 (sym (same_some x c e))))
    (same_or_not c x)
times_there (x ∷ xs) (suc k) c e = let h = times_there xs k c e in omega arith

-- the count after a change of one view
pub claimed-set : (c : ℕ × ℕ) (views : List View) (p : ℕ) (v w : View) → get_elem? views p ≡ some v → claimed c (set views p w) + times c v.claims ≡ claimed c views + times c w.claims
claimed-set c [] p v w at = absurd (some-ne-none v (sym at))
claimed-set c (u ∷ views) zero v w at = let e : times c u.claims ≡ times c v.claims = ap (λ (x : View). times c x.claims) (some-injective u v at) in omega arith
claimed-set c (u ∷ views) (suc p) v w at = let h = claimed-set c views p v w at in omega arith

-- and with one view more
pub claimed-push : (c : ℕ × ℕ) (views : List View) (w : View) → claimed c (views ++ w ∷ []) ≡ claimed c views + times c w.claims
claimed-push c [] w = omega arith
claimed-push c (u ∷ views) w = let h = claimed-push c views w in omega arith

-- one view has no more than all
pub times-le : (c : ℕ × ℕ) (views : List View) (p : ℕ) (v : View) → get_elem? views p ≡ some v → times c v.claims ≤ claimed c views
times-le c [] p v at = absurd (some-ne-none v (sym at))
times-le c (u ∷ views) zero v at = let e : times c u.claims ≡ times c v.claims = ap (λ (x : View). times c x.claims) (some-injective u v at) in omega arith
times-le c (u ∷ views) (suc p) v at = let h = times-le c views p v at in omega arith
