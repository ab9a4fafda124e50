use Rattle.std.proofs.Common.{◌∙◌}
use Rattle.split_rows.proofs.Held.{keeps_by}
use Rattle.split_rows.proofs.rows.SplitRows.go_on.Goals as goal

pub take_step-requires-in-loop-clause-keeps : goal.take_step-requires-in-loop-clause-keeps
take_step-requires-in-loop-clause-keeps c =
    keeps_by c.step.new.self.pair c.args.lanes.now.pair c.step.new.self.k c.args.lanes.now.k c.step.new.self.classes c.args.lanes.now.classes
    (c.step.ensures.pair ∙ c.loop.invariant.1) (c.step.ensures.k ∙ c.loop.invariant.2) (c.step.ensures.classes ∙ c.loop.invariant.3) c.requires.keeps
