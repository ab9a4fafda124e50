use Rattle.std.proofs.Common.{arith, ◌≡◌, ◌+◌, ◌++◌, ◌∷◌, [], ℕ, List, length, sym, ◌∙◌, ap, subst}
use Rattle.std.proofs.lemmas.List.{length_push}
use Rattle.sat_trail.specs.Trail.{IsPlaced, AreStarts}
use Rattle.sat_trail.proofs.Placing.{starts_imply}
use Rattle.sat_trail.proofs.trail.Trail.imply.Goals as goal

pub invariant_of-self : goal.invariant_of-self
invariant_of-self c =
    let t = c.args.self.now in
    let reasons : c.push_reserved.new.self.items ≡ t.reasons.items ++ c.args.reason ∷ [] = c.push_reserved.ensures.items in
    let size : length c.assign.new.at.items ≡ length t.at.items = c.assign.ensures.placed.size in
    record {
      placed = subst (λ (n : ℕ). IsPlaced n c.assign.new.lits.items c.assign.new.at.items) (sym size) c.assign.ensures.placed;
      valued = c.assign.ensures.valued;
      same = ap length reasons ∙ length_push t.reasons.items c.args.reason ∙ ap (λ (n : ℕ). n + 1) t.same ∙ sym (ap length c.assign.ensures.lits ∙ length_push t.lits.items c.args.lit);
      levels = subst (λ (xs : List ℕ). AreStarts xs t.starts.items) (sym reasons) (starts_imply t.reasons.items t.starts.items c.args.reason t.levels c.requires.reason);
      few = omega (arith, size, t.few);
      lits_room = omega (arith, size, c.assign.ensures.room, t.lits_room);
      reasons_room = omega (arith, size, c.push_reserved.ensures.capacity, t.reasons_room);
      starts_room = omega (arith, size, t.starts_room);
    }
