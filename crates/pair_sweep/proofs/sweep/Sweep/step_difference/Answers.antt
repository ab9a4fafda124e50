use Rattle.pair_sweep.proofs.Sweeping.{sweep_reached, sweep_merged}
use Rattle.pair_sweep.proofs.sweep.Sweep.step_difference.Goals as goal

pub invariant_of-self : goal.invariant_of-self
invariant_of-self c =
    sweep_reached c.self.inside.graph c.reach.new.graph c.self.inside.resets c.self.inside.steps c.reach.new.self c.self.inside.solver c.self.inside.k c.self.inside.classes.now c.reach.ensures.on c.self.invariant
    c.reach.ensures.leaves c.reach.ensures.depth c.reach.ensures.map

pub settle_step-requires-clause-map : goal.settle_step-requires-clause-map
settle_step-requires-clause-map c = c.reach.ensures.map c.self.inside.classes.now c.self.invariant.step_map

pub invariant_of-self-in_err-found : goal.invariant_of-self-in_err-found
invariant_of-self-in_err-found c =
    let is = sweep_reached c.self.inside.graph c.reach.new.graph c.self.inside.resets c.self.inside.steps c.reach.new.self c.self.inside.solver c.self.inside.k c.self.inside.classes.now c.reach.ensures.on c.self.invariant
    c.reach.ensures.leaves c.reach.ensures.depth c.reach.ensures.map in
    sweep_merged c.reach.new.graph c.settle_step.new.graph c.self.inside.resets c.reach.new.self c.self.inside.solver c.self.inside.k c.self.inside.classes.now c.settle_step.ensures.merged is

pub invariant_of-self-2 : goal.invariant_of-self-2
invariant_of-self-2 c =
    let is = sweep_reached c.self.inside.graph c.reach.new.graph c.self.inside.resets c.self.inside.steps c.reach.new.self c.self.inside.solver c.self.inside.k c.self.inside.classes.now c.reach.ensures.on c.self.invariant
    c.reach.ensures.leaves c.reach.ensures.depth c.reach.ensures.map in
    sweep_merged c.reach.new.graph c.settle_step.new.graph c.self.inside.resets c.reach.new.self c.self.inside.solver c.self.inside.k c.self.inside.classes.now c.settle_step.ensures.merged is

pub invariant_of-self-in_err-decoded : goal.invariant_of-self-in_err-decoded
invariant_of-self-in_err-decoded c =
    let is = sweep_reached c.self.inside.graph c.reach.new.graph c.self.inside.resets c.self.inside.steps c.reach.new.self c.self.inside.solver c.self.inside.k c.self.inside.classes.now c.reach.ensures.on c.self.invariant
    c.reach.ensures.leaves c.reach.ensures.depth c.reach.ensures.map in
    sweep_merged c.reach.new.graph c.settle_step.new.graph c.self.inside.resets c.reach.new.self c.self.inside.solver c.self.inside.k c.self.inside.classes.now c.settle_step.ensures.merged is
