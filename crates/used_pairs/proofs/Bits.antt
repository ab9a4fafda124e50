-- Bits of places, set at the members of pairs.
use Rattle.std.proofs.Common.{◌≡◌, ◌∙◌, ◌<◌, ◌+◌, ◌/◌, ℕ, zero, suc, Bool, true, false, List, [], ◌∷◌, ◌++◌, length, set, replicate, sym, ap, subst, refl, arith, inl, inr, ⊎_elim}
use Rattle.std.specs.List.{Contains}
use Rattle.std.proofs.lemmas.Bool.{cases_eq, false≢true}
use Rattle.std.proofs.lemmas.List.{get_or-set_same, get_or-set_other, length-set, length-replicate}
use Rattle.std.proofs.lemmas.List.Elements.{Contains-append_left, Contains-push, Contains-push_cases}
use Rattle.circ_model.specs.Meaning.{bit}
use Rattle.log_check.specs.Reached.{is_marked}
use Rattle.frame_unroll.specs.Unrolled.{Unrolling}
use Rattle.frame_unroll.specs.Pairs.{pairs_of}
use Rattle.used_pairs.specs.Logs.{AddsMembers, AreMembers, HasMember}

-- no pair
pub adds_nothing : (bits : List Bool) → AddsMembers [] bits bits
adds_nothing bits = record { size = refl; exact = λ p. (λ e. inl e, λ s. ⊎_elim (λ (e : bit bits p ≡ true). e) (λ (h : HasMember [] p). let c = h.1 in absurd (omega (arith, c.1))) s) }

-- one more
pub adds_more : (q : ℕ × ℕ) (qs : List (ℕ × ℕ)) (before bits after : List Bool) → q.1 / 2 < length before → AddsMembers qs before bits → after ≡ set bits (q.1 / 2) true → AddsMembers (qs ++ q ∷ []) before after
adds_more q qs before bits after within adds e =
    let m : ℕ = q.1 / 2 in
    let s = adds.size in
    let same : bit (set bits m true) m ≡ true = get_or-set_same bits m true false (omega arith) in
    subst (AddsMembers (qs ++ q ∷ []) before) (sym e) (record {
      size = length-set bits m true ∙ adds.size;
      exact = λ p. (
        (λ is. ⊎_elim
            (λ (at : p ≡ m). let at_m : m ≡ p = sym at in inr (q, Contains-push qs q, at_m))
            (λ (o : p ≡ m → ⊥). ⊎_elim (λ (old : bit before p ≡ true). inl old) (λ (h : HasMember qs p). inr (h.0, Contains-append_left qs (q ∷ []) h.0 h.1, h.2)) ((adds.exact p).0 (sym (get_or-set_other bits m p true false o) ∙ is)))
            (cases_eq p m)),
        (λ w. ⊎_elim
            (λ (at : p ≡ m). subst (λ (k : ℕ). bit (set bits m true) k ≡ true) (sym at) same)
            (λ (o : p ≡ m → ⊥). get_or-set_other bits m p true false o ∙ (adds.exact p).1 (⊎_elim (λ (old : bit before p ≡ true). inl old)
            (λ (h : HasMember (qs ++ q ∷ []) p). ⊎_elim (λ (c : Contains qs h.0). inr (h.0, c, h.2)) (λ (is : q ≡ h.0). absurd (o (sym h.2 ∙ ap (λ (r : ℕ × ℕ). r.1 / 2) (sym is)))) (Contains-push_cases qs q h.0 h.1)) w))
            (cases_eq p m)),
      );
    })

-- no clause
pub no_members : (u : Unrolling) (marks bits : List Bool) (places : ℕ) → bits ≡ replicate places false → AreMembers u marks 0 places bits
no_members u marks bits places e = record {
  size = ap length e ∙ length-replicate places false;
  exact = λ p. (λ is. absurd (false≢true (sym (none places p) ∙ sym (ap (λ (bs : List Bool). bit bs p) e) ∙ is)), λ w. absurd (omega (arith, w.1)));
}
  where
    none : (n p : ℕ) → bit (replicate n false) p ≡ false
    none zero p = refl
    none (suc n) zero = refl
    none (suc n) (suc p) = none n p

-- a clause that has a mark
pub marked_more : (u : Unrolling) (marks bits now : List Bool) (n places : ℕ) (pairs : List (ℕ × ℕ)) → AreMembers u marks n places bits → is_marked marks n ≡ true → pairs ≡ pairs_of u (n + 1) → AddsMembers pairs bits now → AreMembers u marks (n + 1) places now
marked_more u marks bits now n places pairs so marked e adds =
    let next : n + 1 ≡ suc n = omega arith in
    let are : pairs ≡ pairs_of u (suc n) = e ∙ ap (pairs_of u) next in
    record {
      size = adds.size ∙ so.size;
      exact = λ p. (
        (λ is. ⊎_elim
            (λ (old : bit bits p ≡ true). let (i, lt, m, h) = (so.exact p).0 old in (i, omega arith, m, h))
            (λ (h : HasMember pairs p). (n, omega arith, marked, subst (λ (qs : List (ℕ × ℕ)). HasMember qs p) are h)) ((adds.exact p).0 is)),
        (λ (i, lt, m, h). (adds.exact p).1 (⊎_elim
            (λ (at : i ≡ n). inr (subst (λ (qs : List (ℕ × ℕ)). HasMember qs p) (ap (λ (j : ℕ). pairs_of u (suc j)) at ∙ sym are) h))
            (λ (o : i ≡ n → ⊥). inl ((so.exact p).1 (i, omega (arith, o), m, h)))
            (cases_eq i n))),
      );
    }

-- and one that has none
pub passed_more : (u : Unrolling) (marks bits : List Bool) (n places : ℕ) → AreMembers u marks n places bits → is_marked marks n ≡ false → AreMembers u marks (n + 1) places bits
passed_more u marks bits n places so passed = record {
  size = so.size;
  exact = λ p. (
    (λ is. let (i, lt, m, h) = (so.exact p).0 is in (i, omega arith, m, h)),
    (λ (i, lt, m, h). ⊎_elim
        (λ (at : i ≡ n). absurd (false≢true (sym passed ∙ subst (λ (j : ℕ). is_marked marks j ≡ true) at m)))
        (λ (o : i ≡ n → ⊥). (so.exact p).1 (i, omega (arith, o), m, h))
        (cases_eq i n)),
  );
}
