use Rattle.std.proofs.Common.{IfOk, rules, sym, subst}
use Rattle.pair_sweep.specs.Sweeps.{PassesIfEqual}
use Rattle.pair_sweep.proofs.Sweeping.{passes_where, sweep_asked, sweep_reached}
use Rattle.pair_sweep.proofs.sweep.Sweep.assumed_difference.Goals as goal
use Rattle.pair_sweep.proofs.sweep.Sweep.assumed_difference.Goals.{in-Equal, in-Apart+in_ok-bits-in-Apart, in-Unknown}

pub invariant_of-self : goal.invariant_of-self
invariant_of-self c = sweep_reached c.self.inside.graph c.reach.new.graph c.self.inside.resets c.self.inside.steps c.reach.new.self c.self.inside.solver c.self.inside.k c.self.inside.classes.now c.reach.ensures.on c.self.invariant c.reach.ensures.leaves c.reach.ensures.depth c.reach.ensures.map

pub difference-requires-clause-left : goal.difference-requires-clause-left
difference-requires-clause-left c =
    let is = sweep_reached c.self.inside.graph c.reach.new.graph c.self.inside.resets c.self.inside.steps c.reach.new.self c.self.inside.solver c.self.inside.k c.self.inside.classes.now c.reach.ensures.on c.self.invariant c.reach.ensures.leaves c.reach.ensures.depth c.reach.ensures.map in
    let within = c.step_pair-least.ensures.within c.reach.new.graph is.step_map.within in
    within.0

pub difference-requires-clause-right : goal.difference-requires-clause-right
difference-requires-clause-right c =
    let is = sweep_reached c.self.inside.graph c.reach.new.graph c.self.inside.resets c.self.inside.steps c.reach.new.self c.self.inside.solver c.self.inside.k c.self.inside.classes.now c.reach.ensures.on c.self.invariant c.reach.ensures.leaves c.reach.ensures.depth c.reach.ensures.map in
    let within = c.step_pair-least.ensures.within c.reach.new.graph is.step_map.within in
    within.1

pub difference-requires-clause-told : goal.difference-requires-clause-told
difference-requires-clause-told c =
    let is = sweep_reached c.self.inside.graph c.reach.new.graph c.self.inside.resets c.self.inside.steps c.reach.new.self c.self.inside.solver c.self.inside.k c.self.inside.classes.now c.reach.ensures.on c.self.invariant c.reach.ensures.leaves c.reach.ensures.depth c.reach.ensures.map in
    is.told

pub invariant_of-self-in_err-difference : goal.invariant_of-self-in_err-difference
invariant_of-self-in_err-difference c =
    let is = sweep_reached c.self.inside.graph c.reach.new.graph c.self.inside.resets c.self.inside.steps c.reach.new.self c.self.inside.solver c.self.inside.k c.self.inside.classes.now c.reach.ensures.on c.self.invariant c.reach.ensures.leaves c.reach.ensures.depth c.reach.ensures.map in
    sweep_asked c.reach.new.graph c.self.inside.resets c.reach.new.self c.self.inside.solver c.difference.new.self c.self.inside.k c.self.inside.classes.now is c.difference.ensures.facts c.difference.ensures.told

pub invariant_of-self-in_err-bits-in-Apart : goal.invariant_of-self-in_err-bits-in-Apart
invariant_of-self-in_err-bits-in-Apart c =
    let is = sweep_reached c.self.inside.graph c.reach.new.graph c.self.inside.resets c.self.inside.steps c.reach.new.self c.self.inside.solver c.self.inside.k c.self.inside.classes.now c.reach.ensures.on c.self.invariant c.reach.ensures.leaves c.reach.ensures.depth c.reach.ensures.map in
    sweep_asked c.reach.new.graph c.self.inside.resets c.reach.new.self c.self.inside.solver c.difference.new.self c.self.inside.k c.self.inside.classes.now is c.difference.ensures.facts c.difference.ensures.told

pub invariant_of-self-2 : goal.invariant_of-self-2
invariant_of-self-2 c =
    let is = sweep_reached c.self.inside.graph c.reach.new.graph c.self.inside.resets c.self.inside.steps c.reach.new.self c.self.inside.solver c.self.inside.k c.self.inside.classes.now c.reach.ensures.on c.self.invariant c.reach.ensures.leaves c.reach.ensures.depth c.reach.ensures.map in
    sweep_asked c.reach.new.graph c.self.inside.resets c.reach.new.self c.self.inside.solver c.difference.new.self c.self.inside.k c.self.inside.classes.now is c.difference.ensures.facts c.difference.ensures.told

pub returns-clause-passes : goal.returns-clause-passes
returns-clause-passes c =
    let is = sweep_reached c.self.inside.graph c.reach.new.graph c.self.inside.resets c.self.inside.steps c.reach.new.self c.self.inside.solver c.self.inside.k c.self.inside.classes.now c.reach.ensures.on c.self.invariant c.reach.ensures.leaves c.reach.ensures.depth c.reach.ensures.map in
    elim c.match-branch-3.branch [
      | in-Equal w ↦ subst (λ r. IfOk r (PassesIfEqual c.args.self.now c.args.member)) (sym w.result-is)
          (passes_where c.reach.new.graph c.self.inside.resets c.reach.new.self c.self.inside.solver c.self.inside.k c.self.inside.classes.now c.args.self.now c.args.member c.step_pair-least.result.0 c.step_pair-least.result.1 c.in_ok-difference.field-0 is c.self.view_is
          (c.step_pair-least.ensures.equal_where c.reach.new.graph c.self.inside.solver.facts c.len-nodes.ensures.graph is.step_map is.owed) c.in_ok-difference.ensures.answer w.in-Equal.is)
      | in-Apart+in_ok-bits-in-Apart w ↦ subst (λ r. IfOk r (PassesIfEqual c.args.self.now c.args.member)) (sym w.result-is) (search rules)
      | in-Unknown w ↦ subst (λ r. IfOk r (PassesIfEqual c.args.self.now c.args.member)) (sym w.result-is) (search rules)
    ]
