use Rattle.std.proofs.Common.{arith, ◌≡◌, ◌++◌, ◌∷◌, [], ℕ, List, length, take, sym, ◌∙◌, ap, subst, refl}
use Rattle.std.proofs.lemmas.List.{length_push, take_at, take-take}
use Rattle.sat_trail.specs.Trail.{IsPlaced, AreValues}
use Rattle.sat_trail.proofs.Placing.{placed_pop}
use Rattle.sat_trail.proofs.Valuing.{values_pop}
use Rattle.sat_trail.proofs.trail.unwind.Goals as goal

pub back-preserved-in-Some : goal.back-preserved-in-Some
back-preserved-in-Some c =
    let v = c.back.invariant in
    let vars : ℕ = length c.args.at.now.items in
    let rest : List ℕ = c.pop.new.self.items in
    let lit : ℕ = c.in-Some.lit in
    let whole : c.back.lits.items ≡ rest ++ lit ∷ [] = c.in-Some.ensures.items in
    let len = ap length whole ∙ length_push rest lit in
    let placed : IsPlaced vars (rest ++ lit ∷ []) c.back.at.items = subst (λ (xs : List ℕ). IsPlaced vars xs c.back.at.items) whole v.placed in
    let valued : AreValues (rest ++ lit ∷ []) c.back.at.items c.back.values.items = subst (λ (xs : List ℕ). AreValues xs c.back.at.items c.back.values.items) whole v.valued in
    record {
      placed = placed_pop vars rest c.back.at.items lit placed;
      valued = rw c.complement.ensures (values_pop vars rest c.back.at.items c.back.values.items lit placed valued);
      cut = omega (arith, v.cut);
      room = c.in-Some.ensures.capacity ∙ v.room;
      lits = sym (take_at rest (lit ∷ []) (length rest) refl) ∙ ap (take (length rest)) (sym whole ∙ v.lits) ∙ take-take (length rest) (length c.back.lits.items) c.args.lits.now.items (omega arith);
    }
