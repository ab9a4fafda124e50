use Rattle.pair_sweep.proofs.Sweeping.{sweep_merged}
use Rattle.pair_sweep.proofs.sweep.Sweep.base_difference.Goals as goal

pub invariant_of-self : goal.invariant_of-self
invariant_of-self c = sweep_merged c.self.inside.graph c.settle_base.new.graph c.self.inside.resets c.self.inside.steps c.self.inside.solver c.self.inside.k c.self.inside.classes.now c.settle_base.ensures.merged c.self.invariant

pub invariant_of-self-2 : goal.invariant_of-self-2
invariant_of-self-2 c = sweep_merged c.self.inside.graph c.settle_base.new.graph c.self.inside.resets c.self.inside.steps c.self.inside.solver c.self.inside.k c.self.inside.classes.now c.settle_base.ensures.merged c.self.invariant

pub invariant_of-self-in_err-decoded : goal.invariant_of-self-in_err-decoded
invariant_of-self-in_err-decoded c = sweep_merged c.self.inside.graph c.settle_base.new.graph c.self.inside.resets c.self.inside.steps c.self.inside.solver c.self.inside.k c.self.inside.classes.now c.settle_base.ensures.merged c.self.invariant
