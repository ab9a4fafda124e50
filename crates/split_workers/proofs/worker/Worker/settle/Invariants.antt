use Rattle.std.proofs.Common.{◌≡◌}
use Rattle.split_workers.proofs.worker.Worker.settle.Given as goal

abbrev pub invariant-loop-turn : goal.invariant-loop-turn
invariant-loop-turn g l = l.self ≡ l.fn.self
