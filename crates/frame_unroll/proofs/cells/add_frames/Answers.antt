use Rattle.std.proofs.Common.{◌∙◌, length, arith}
use Rattle.frame_unroll.specs.Frames.{literal_in, frame_clauses}
use Rattle.frame_unroll.proofs.Appending.{added_more}
use Rattle.frame_unroll.proofs.cells.add_frames.Goals as goal

pub loop-t-preserved : goal.loop-t-preserved
loop-t-preserved c = (
  omega arith,
  c.add_frame.ensures.vars ∙ c.loop-t.invariant.1,
  added_more (frame_clauses (literal_in (length c.args.cells.now)) c.args.from_reset c.args.cells.now) c.args.cnf.now.clauses c.loop-t.cnf.clauses c.add_frame.new.cnf.clauses c.loop-t.t c.loop-t.invariant.2 c.in_ok-add_frame.ensures.ok,
)
