use Rattle.pair_sweep.proofs.Sweeping.{passes_by, sweep_reached}
use Rattle.pair_sweep.proofs.sweep.Sweep.is_same.Goals as goal

pub invariant_of-self : goal.invariant_of-self
invariant_of-self c = sweep_reached c.self.inside.graph c.reach.new.graph c.self.inside.resets c.self.inside.steps c.reach.new.self c.self.inside.solver c.self.inside.k c.self.inside.classes.now c.reach.ensures.on c.self.invariant c.reach.ensures.leaves c.reach.ensures.depth c.reach.ensures.map

pub same-requires-clause-left : goal.same-requires-clause-left
same-requires-clause-left c =
    let is = sweep_reached c.self.inside.graph c.reach.new.graph c.self.inside.resets c.self.inside.steps c.reach.new.self c.self.inside.solver c.self.inside.k c.self.inside.classes.now c.reach.ensures.on c.self.invariant c.reach.ensures.leaves c.reach.ensures.depth c.reach.ensures.map in
    let within = c.step_pair-least.ensures.within c.reach.new.graph is.step_map.within in
    within.0

pub same-requires-clause-right : goal.same-requires-clause-right
same-requires-clause-right c =
    let is = sweep_reached c.self.inside.graph c.reach.new.graph c.self.inside.resets c.self.inside.steps c.reach.new.self c.self.inside.solver c.self.inside.k c.self.inside.classes.now c.reach.ensures.on c.self.invariant c.reach.ensures.leaves c.reach.ensures.depth c.reach.ensures.map in
    let within = c.step_pair-least.ensures.within c.reach.new.graph is.step_map.within in
    within.1

pub invariant_of-self-2 : goal.invariant_of-self-2
invariant_of-self-2 c = sweep_reached c.self.inside.graph c.reach.new.graph c.self.inside.resets c.self.inside.steps c.reach.new.self c.self.inside.solver c.self.inside.k c.self.inside.classes.now c.reach.ensures.on c.self.invariant c.reach.ensures.leaves c.reach.ensures.depth c.reach.ensures.map

pub returns-clause-passes : goal.returns-clause-passes
returns-clause-passes c same =
    let is = sweep_reached c.self.inside.graph c.reach.new.graph c.self.inside.resets c.self.inside.steps c.reach.new.self c.self.inside.solver c.self.inside.k c.self.inside.classes.now c.reach.ensures.on c.self.invariant c.reach.ensures.leaves c.reach.ensures.depth c.reach.ensures.map in
    passes_by c.reach.new.graph c.self.inside.resets c.reach.new.self c.self.inside.solver c.self.inside.k c.self.inside.classes.now c.args.self.now c.args.member is c.self.view_is
    (c.step_pair-least.ensures.equal c.reach.new.graph c.len-nodes.ensures.graph is.step_map (c.same.ensures same))
