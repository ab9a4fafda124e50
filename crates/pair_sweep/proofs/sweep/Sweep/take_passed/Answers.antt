use Rattle.pair_sweep.proofs.Sweeping.{sweep_reached, sweep_passed}
use Rattle.pair_sweep.proofs.sweep.Sweep.take_passed.Goals as goal

pub invariant_of-self : goal.invariant_of-self
invariant_of-self c =
    sweep_reached c.self.inside.graph c.reach.new.graph c.self.inside.resets c.self.inside.steps c.reach.new.self c.self.inside.solver c.self.inside.k c.self.inside.classes.now c.reach.ensures.on c.self.invariant
    c.reach.ensures.leaves c.reach.ensures.depth c.reach.ensures.map

pub invariant_of-self-2 : goal.invariant_of-self-2
invariant_of-self-2 c =
    let is = sweep_reached c.self.inside.graph c.reach.new.graph c.self.inside.resets c.self.inside.steps c.reach.new.self c.self.inside.solver c.self.inside.k c.self.inside.classes.now c.reach.ensures.on c.self.invariant
    c.reach.ensures.leaves c.reach.ensures.depth c.reach.ensures.map in
    sweep_passed c.reach.new.graph c.self.inside.resets c.reach.new.self c.pass.new.self c.self.inside.solver c.self.inside.k c.self.inside.classes.now is c.pass.ensures.leaves c.pass.ensures.depth c.pass.ensures.map
