use Rattle.plain_text.proofs.Placed.{placed_none, placed_more, placed_last}
use Rattle.plain_text.proofs.decimal.decimal_digits.Goals as goal

pub loop-rest-init : goal.loop-rest-init
loop-rest-init c = placed_none _ _ c.ranges.n.fits c.told-digits

pub overflow_sub-start : goal.overflow_sub-start
overflow_sub-start c = (placed_more _ _ _ _ c.loop-rest-test.true c.loop-rest.invariant).0

pub loop-rest-preserved : goal.loop-rest-preserved
loop-rest-preserved c = (placed_more _ _ _ _ c.loop-rest-test.true c.loop-rest.invariant).1

pub overflow_sub-start-2 : goal.overflow_sub-start-2
overflow_sub-start-2 c = (placed_last _ _ _ _ c.loop-rest-test.false c.loop-rest.invariant).0

pub returns-clause-digits : goal.returns-clause-digits
returns-clause-digits c = (placed_last _ _ _ _ c.loop-rest-test.false c.loop-rest.invariant).1
