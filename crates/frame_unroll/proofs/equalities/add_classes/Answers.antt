use Rattle.std.proofs.Common.{◌∙◌}
use Rattle.std.specs.Prelude.{flat_map}
use Rattle.frame_unroll.specs.Frames.{literal_in, equal_clauses}
use Rattle.frame_unroll.proofs.Appending.{added_more}
use Rattle.frame_unroll.proofs.equalities.add_classes.Goals as goal

pub loop-t-preserved : goal.loop-t-preserved
loop-t-preserved c = (
  c.add_equals.ensures.vars ∙ c.loop-t.invariant.0,
  added_more (λ t. flat_map (equal_clauses (literal_in c.args.n) t) c.args.needed.now) c.args.cnf.now.clauses c.loop-t.cnf.clauses c.add_equals.new.cnf.clauses c.loop-t.t c.loop-t.invariant.1 c.in_ok-add_equals.ensures.ok,
)
