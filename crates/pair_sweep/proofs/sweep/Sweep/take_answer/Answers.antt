use Rattle.frame_graph.proofs.Merges.{merged_by}
use Rattle.pair_sweep.proofs.Sweeping.{sweep_merged}
use Rattle.pair_sweep.proofs.sweep.Sweep.take_answer.Goals as goal

pub invariant_of-self : goal.invariant_of-self
invariant_of-self c =
    sweep_merged c.self.inside.graph c.take_answer.new.self c.self.inside.resets c.self.inside.steps c.self.inside.solver c.self.inside.k c.self.inside.classes.now
    (merged_by c.self.inside.graph c.take_answer.new.self c.take_answer.ensures.size c.take_answer.ensures.operands c.take_answer.ensures.valuations) c.self.invariant
