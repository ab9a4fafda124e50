use Rattle.std.proofs.Common.{arith, ◌≡◌, ◌≢◌, ◌≤◌, ◌<◌, ◌/◌, ℕ, List, length, get_or, sym, ◌∙◌, subst, ◌⊎◌, inl, inr, ⊎_elim}
use Rattle.std.proofs.lemmas.Bool.{cases_eq}
use Rattle.std.proofs.lemmas.List.{get_or_default}
use Rattle.sat_trail.proofs.trail.Trail.top.Goals as goal

pub loop-lit-preserved : goal.loop-lit-preserved
loop-lit-preserved c =
    let i : ℕ = c.loop-lit.lit-index in
    let clause : List ℕ = c.args.clause.now in
    let at : List ℕ = c.args.self.now.at.items in
    let skip : ℕ = c.args.skip in
    let v = c.loop-lit.invariant in
    let h = c.higher-most.ensures in
    let most : ℕ = c.higher-most.result in
    let lt : i < length clause = omega arith in
    record {
      most = λ k room. ⊎_elim
          (λ (e : k ≡ i). subst (λ (j : ℕ). (get_or clause j 0 ≡ skip) ⊎ (get_or at (get_or clause j 0 / 2) 0 ≤ most)) (sym e) h.here)
          (λ (ne : k ≢ i). ⊎_elim (λ (e : get_or clause k 0 ≡ skip). inl e) (λ (le : get_or at (get_or clause k 0 / 2) 0 ≤ c.loop-lit.most). inr (omega (arith, h.most))) (v.most k (omega arith)))
          (cases_eq k i);
      met = ⊎_elim
          (λ (e : most ≡ c.loop-lit.most). subst (λ (m : ℕ). (m ≡ 0) ⊎ ((k : ℕ) × (k < length clause) × (get_or clause k 0 ≢ skip) × (get_or at (get_or clause k 0 / 2) 0 ≡ m))) (sym e) v.met)
          (λ (n : (get_or clause i 0 ≢ skip) × (get_or at (get_or clause i 0 / 2) 0 ≡ most)). inr (i, lt, n.0, n.1))
          h.met;
    }

pub returns-clause-most : goal.returns-clause-most
returns-clause-most c = λ l has.
    let clause : List ℕ = c.args.clause.now in
    let e : get_or clause has.0 0 ≡ l = get_or_default clause has.0 0 l has.1 ∙ has.2 in
    subst (λ (x : ℕ). (x ≡ c.args.skip) ⊎ (get_or c.args.self.now.at.items (x / 2) 0 ≤ c.loop-lit.most)) e (c.loop-lit.invariant.most has.0 (omega (arith, has.1)))
