use Rattle.std.proofs.Common.{arith, ◌≡◌, ◌≤◌, ℕ, List, length, take, get_or, sym, ◌∙◌, ap, subst}
use Rattle.std.proofs.lemmas.List.{length-take-le, get_or_default}
use Rattle.sat_trail.specs.Trail.{IsPlaced, AreStarts}
use Rattle.sat_trail.proofs.Placing.{starts_cut}
use Rattle.sat_trail.proofs.trail.Trail.back_to.Goals as goal

pub invariant_of-self : goal.invariant_of-self
invariant_of-self c =
    let t = c.args.self.now in
    let p = c.unwind.ensures.placed in
    let size : length t.at.items ≡ length c.unwind.new.at.items = sym p.size in
    let cut : c.index-cut.result.now ≡ get_or t.starts.items c.args.level 0 = c.index-cut.ensures ∙ get_or_default t.starts.items c.args.level c.index-cut.result.now 0 c.requires in
    let e = t.levels.each c.args.level c.requires in
    let le : c.index-cut.result.now ≤ length t.lits.items = omega (arith, cut, e.0, t.same) in
    let le2 : c.index-cut.result.now ≤ length t.reasons.items = omega (arith, t.same) in
    record {
      placed = subst (λ (n : ℕ). IsPlaced n c.unwind.new.lits.items c.unwind.new.at.items) size p;
      valued = c.unwind.ensures.valued;
      same = ap length c.truncate.ensures.items ∙ length-take-le c.index-cut.result.now t.reasons.items le2 ∙ sym (ap length c.unwind.ensures.lits ∙ length-take-le c.index-cut.result.now t.lits.items le);
      levels = subst (λ (xs : List ℕ). AreStarts xs c.truncate-2.new.self.items) (sym c.truncate.ensures.items) (subst (AreStarts (take c.index-cut.result.now t.reasons.items)) (sym c.truncate-2.ensures.items) (starts_cut t.reasons.items t.starts.items c.args.level c.index-cut.result.now t.levels c.requires (sym cut)));
      few = omega (arith, size, t.few);
      lits_room = omega (arith, size, t.lits_room, c.unwind.ensures.room);
      reasons_room = omega (arith, size, t.reasons_room, c.truncate.ensures.capacity);
      starts_room = omega (arith, size, t.starts_room, c.truncate-2.ensures.capacity);
    }
