use Rattle.std.proofs.Common.{◌∙◌, subst, arith}
use Rattle.circ_model.specs.Meaning.{Pair}
use Rattle.circ_model.specs.Correspondence.{MaySplit, MaySplit.OfRun}
use Rattle.verdict_stamp.proofs.vector.Vector.of_lane.Goals as goal

pub of-requires-clause-may : goal.of-requires-clause-may
of-requires-clause-may c =
    let last = c.frame-frame.ensures.runs c.args.run c.requires.run in
    let rows = last.rows in
    subst (λ (p : Pair). MaySplit p c.args.k c.column.new.into) c.requires.pair (OfRun last.run c.frame-frame.result last.is_run (omega (arith, rows)) (c.column.ensures ∙ last.row))
