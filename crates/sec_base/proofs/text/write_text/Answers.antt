use Rattle.std.proofs.Common.{arith}
use Rattle.sec_base.proofs.Pieces.{remains_more}
use Rattle.sec_base.proofs.text.write_text.Goals as goal

pub loop-rest-preserved : goal.loop-rest-preserved
loop-rest-preserved g c = (
  remains_more _ _ _ _ _ _ c.loop-rest.invariant.0 c.in_ok-count.ensures.within c.in_ok-count.ensures.ok,
  omega (arith, c.loop-rest.invariant.1, c.write.ensures.count),
)
