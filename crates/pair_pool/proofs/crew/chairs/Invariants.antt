use Rattle.std.proofs.Common.{◌≡◌, All}
use Rattle.claim_word.specs.Seats.{beside}
use Rattle.pair_pool.specs.declared.worker.Chair.{Chair}
use Rattle.pair_pool.proofs.crew.chairs.Given as goal

abbrev pub invariant-loop-worker : goal.invariant-loop-worker
invariant-loop-worker l = (l.board ≡ l.fn.board) × All (λ (c : Chair). c.seat ≡ beside l.word) l.chairs.items
