use Rattle.std.proofs.Common.{◌∙◌}
use Rattle.circ_model.specs.Correspondence.{MaySplit.OfRun}
use Rattle.verdict_stamp.proofs.vector.Vector.from_run.Goals as goal

pub of-requires-clause-may : goal.of-requires-clause-may
of-requires-clause-may c = OfRun c.args.run.now c.args.t c.requires.run c.requires.frame (c.copy_from.ensures ∙ c.values.ensures ∙ c.values_at.ensures.values)
