use Rattle.std.proofs.Common.{arith, ◌+◌, ℕ, List, take, sym, subst, Option}
use Rattle.sat_trail.proofs.Seeing.{SoFar}
use Rattle.sat_trail.proofs.Seeing.{so_far_false, so_far_free, so_far_all, so_far_unit}
use Rattle.sat_trail.proofs.trail.Trail.inspect.Goals as goal
use Rattle.sat_trail.proofs.trail.Trail.inspect.Goals.{in-False, in-Free+in-None}

pub loop-lit-preserved : goal.loop-lit-preserved
loop-lit-preserved c =
    let lits : List ℕ = c.args.self.now.lits.items in let at : List ℕ = c.args.self.now.at.items in
    let i : ℕ = c.loop-lit.lit-index in
    let clause : List ℕ = c.args.clause.now in
    let next : Option ℕ → Type 0 = λ u. SoFar lits at clause (take (i + 1) clause) u in
    let h : next c.match-value.unit = elim c.match-value.branch [
      | in-False w ↦ subst next (sym w.unit-is) (so_far_false lits at clause i c.loop-lit.unit (omega arith) w.in-False.ensures c.loop-lit.invariant)
      | in-Free+in-None w ↦ subst next (sym w.unit-is) (so_far_free lits at clause i (omega arith) w.in-Free.ensures
          (subst (λ (u : Option ℕ). SoFar lits at clause (take i clause) u) w.in-None.is c.loop-lit.invariant))
    ] in h

pub returns-in-Some-unit : goal.returns-in-Some-unit
returns-in-Some-unit c =
    let lits : List ℕ = c.args.self.now.lits.items in let at : List ℕ = c.args.self.now.at.items in
    let clause : List ℕ = c.args.clause.now in
    so_far_unit lits at clause c.in-Some-unit.lit (subst (λ (u : Option ℕ). SoFar lits at clause clause u) c.in-Some-unit.is
    (so_far_all lits at clause c.loop-lit.lit-index c.loop-lit.unit c.loop-lit-test.false c.loop-lit.invariant))

pub returns-in-None-unit : goal.returns-in-None-unit
returns-in-None-unit c =
    let lits : List ℕ = c.args.self.now.lits.items in let at : List ℕ = c.args.self.now.at.items in
    let clause : List ℕ = c.args.clause.now in
    subst (λ (u : Option ℕ). SoFar lits at clause clause u) c.in-None-unit.is
    (so_far_all lits at clause c.loop-lit.lit-index c.loop-lit.unit c.loop-lit-test.false c.loop-lit.invariant)
