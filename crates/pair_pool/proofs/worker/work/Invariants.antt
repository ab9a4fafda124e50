use Rattle.pair_pool.specs.Claims.{AreFound, AreListed}
use Rattle.pair_pool.proofs.worker.work.Given as goal

abbrev pub invariant-loop-call : goal.invariant-loop-call
invariant-loop-call g l = AreListed l.word l.seat l.claimed.items × AreFound l.pairs.products.now l.pairs.k l.claimed.items
