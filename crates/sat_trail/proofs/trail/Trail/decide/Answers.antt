use Rattle.std.proofs.Common.{rules, arith, ◌≡◌, ◌+◌, ◌/◌, ◌++◌, ◌∷◌, [], ℕ, List, length, sym, ◌∙◌, ap, subst}
use Rattle.std.proofs.lemmas.List.{length_push}
use Rattle.sat_trail.specs.Trail.{IsPlaced, AreStarts}
use Rattle.sat_trail.proofs.Placing.{starts_decide, starts_le}
use Rattle.sat_trail.proofs.Upkeep.{has_room}
use Rattle.sat_trail.proofs.trail.Trail.decide.Goals as goal

pub push_reserved-requires-2 : goal.push_reserved-requires-2
push_reserved-requires-2 c =
    let t = c.args.self.now in
    let r = has_room (length t.at.items) t.lits.items t.at.items (c.args.lit / 2) t.placed c.requires.within c.requires.free in
    let m = starts_le t.reasons.items t.starts.items t.levels in
    omega (arith, t.starts_room, t.same, t.starts.ok)

pub invariant_of-self : goal.invariant_of-self
invariant_of-self c =
    let t = c.args.self.now in
    let reasons : c.push_reserved.new.self.items ≡ t.reasons.items ++ 0 ∷ [] = c.push_reserved.ensures.items in
    let starts : c.push_reserved-2.new.self.items ≡ t.starts.items ++ c.len-place.result ∷ [] = c.push_reserved-2.ensures.items in
    let place : c.len-place.result ≡ length t.lits.items = search rules in
    let size : length c.assign.new.at.items ≡ length t.at.items = c.assign.ensures.placed.size in
    record {
      placed = subst (λ (n : ℕ). IsPlaced n c.assign.new.lits.items c.assign.new.at.items) (sym size) c.assign.ensures.placed;
      valued = c.assign.ensures.valued;
      same = ap length reasons ∙ length_push t.reasons.items 0 ∙ ap (λ (n : ℕ). n + 1) t.same ∙ sym (ap length c.assign.ensures.lits ∙ length_push t.lits.items c.args.lit);
      levels = subst (λ (xs : List ℕ). AreStarts xs c.push_reserved-2.new.self.items) (sym reasons) (subst (AreStarts (t.reasons.items ++ 0 ∷ [])) (sym starts)
          (starts_decide t.reasons.items t.starts.items c.len-place.result (place ∙ sym t.same) t.levels));
      few = omega (arith, size, t.few);
      lits_room = omega (arith, size, c.assign.ensures.room, t.lits_room);
      reasons_room = omega (arith, size, c.push_reserved.ensures.capacity, t.reasons_room);
      starts_room = omega (arith, size, c.push_reserved-2.ensures.capacity, t.starts_room);
    }
