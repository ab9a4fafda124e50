use Rattle.pair_sweep.proofs.Sweeping.{sweep_assumed, sweep_grown}
use Rattle.pair_sweep.proofs.sweep.Sweep.assume.Goals as goal

pub invariant_of-self : goal.invariant_of-self
invariant_of-self c = sweep_grown c.self.inside.graph c.owed.new.graph c.self.inside.resets c.self.inside.steps c.self.inside.solver c.self.inside.k c.self.inside.classes.now c.owed.ensures.on c.self.invariant

pub assume-requires-clause-told : goal.assume-requires-clause-told
assume-requires-clause-told c =
    let is = sweep_grown c.self.inside.graph c.owed.new.graph c.self.inside.resets c.self.inside.steps c.self.inside.solver c.self.inside.k c.self.inside.classes.now c.owed.ensures.on c.self.invariant in
    is.told

pub invariant_of-self-2 : goal.invariant_of-self-2
invariant_of-self-2 c =
    let is = sweep_grown c.self.inside.graph c.owed.new.graph c.self.inside.resets c.self.inside.steps c.self.inside.solver c.self.inside.k c.self.inside.classes.now c.owed.ensures.on c.self.invariant in
    sweep_assumed c.owed.new.graph c.self.inside.resets c.self.inside.steps c.self.inside.solver c.assume.new.self c.self.inside.k c.self.inside.classes.now (c.in_ok-own.own, c.in_ok-own.stands) is
    (c.in_ok-own.ensures.owed c.self.inside.classes.now c.self.invariant.step_map) c.assume.ensures.facts c.assume.ensures.told
