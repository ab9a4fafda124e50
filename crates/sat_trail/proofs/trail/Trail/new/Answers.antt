use Rattle.std.proofs.Common.{rules, arith, ◌≡◌, ◌≤◌, ◌<◌, ◌*◌, [], ℕ, List, length, replicate, get_or, sym, ◌∙◌, ap, subst, refl, ⊎_elim}
use Rattle.std.proofs.lemmas.List.{get_or-replicate, get_or_past, length-replicate}
use Rattle.std.proofs.lemmas.Bool.{cases_lt}
use Rattle.cnf_store.specs.declared.value.Value.TheVariants.{Free}
use Rattle.sat_trail.specs.Trail.{IsPlaced, AreStarts, AreValues}
use Rattle.sat_trail.proofs.Placing.{placed_none, zeros_all, starts_none}
use Rattle.sat_trail.proofs.Valuing.{values_none}
use Rattle.sat_trail.proofs.trail.Trail.new.Goals as goal

zero_at : (n v : ℕ) → ◌≡◌ {A = ℕ} (get_or (replicate n 0) v 0) 0
zero_at n v = ⊎_elim (λ (a : v < n). get_or-replicate n v 0 0 a) (λ (b : n ≤ v). get_or_past (replicate n 0) v 0 (omega (arith, length-replicate {A = ℕ} n 0))) (cases_lt v n)

pub invariant_of-result : goal.invariant_of-result
invariant_of-result c =
    let at : List ℕ = c.in_ok-at.at.items in
    let is : at ≡ replicate c.args.vars 0 = c.in_ok-at.ensures.items_if_clones_equal (search rules) in
    let none : (v : ℕ) → get_or at v 0 ≡ 0 = λ v. ap (λ (xs : List ℕ). get_or xs v 0) is ∙ zero_at c.args.vars v in
    let len : length at ≡ c.args.vars = ap length is ∙ length-replicate {A = ℕ} c.args.vars 0 in
    let values : c.in_ok-values.values.items ≡ replicate (2 * c.args.vars) Free = c.in_ok-values.ensures.items_if_clones_equal (search rules) in
    record {
      placed = subst (λ (xs : List ℕ). IsPlaced (length at) xs at) (sym c.in_ok-lits.ensures.items) (placed_none (length at) at refl none (zeros_all (length at) at refl none));
      valued = subst (λ (xs : List ℕ). AreValues xs at c.in_ok-values.values.items) (sym c.in_ok-lits.ensures.items) (values_none at c.in_ok-values.values.items (values ∙ ap (λ (n : ℕ). replicate (2 * n) Free) (sym len)) none);
      same = ap length c.in_ok-reasons.ensures.items ∙ sym (ap length c.in_ok-lits.ensures.items);
      levels = subst (λ (xs : List ℕ). AreStarts xs c.in_ok-starts.starts.items) (sym c.in_ok-reasons.ensures.items) (subst (AreStarts []) (sym c.in_ok-starts.ensures.items) starts_none);
      few = omega (arith, c.requires);
      lits_room = omega (arith, len, c.in_ok-lits.ensures.exact);
      reasons_room = omega (arith, len, c.in_ok-reasons.ensures.exact);
      starts_room = omega (arith, len, c.in_ok-starts.ensures.exact);
    }
