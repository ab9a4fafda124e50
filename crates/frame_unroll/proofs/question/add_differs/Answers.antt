use Rattle.std.proofs.Common.{◌+◌, ◌∙◌}
use Rattle.frame_unroll.specs.Frames.{literal_in, differ_clauses}
use Rattle.frame_unroll.proofs.Appending.{added_more, kept_more}
use Rattle.frame_unroll.proofs.question.add_differs.Goals as goal

pub loop-i-preserved : goal.loop-i-preserved
loop-i-preserved c = (
  c.add_differ.ensures.vars ∙ c.loop-i.invariant.0,
  added_more (λ i. differ_clauses (literal_in c.args.n) (c.args.asked.first + i) (c.args.d + i) c.args.asked.a c.args.asked.b) c.args.cnf.now.clauses c.loop-i.cnf.clauses c.add_differ.new.cnf.clauses c.loop-i.i c.loop-i.invariant.1 c.in_ok-add_differ.ensures.ok,
  kept_more c.args.cnf.now.clauses c.loop-i.cnf.clauses c.add_differ.new.cnf.clauses c.add_differ.ensures.kept c.loop-i.invariant.2,
)
