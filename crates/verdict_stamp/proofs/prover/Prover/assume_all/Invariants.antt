use Rattle.std.proofs.Common.{◌≡◌}
use Rattle.verdict_stamp.proofs.prover.Prover.assume_all.Given as goal

abbrev pub invariant-loop-at : goal.invariant-loop-at
invariant-loop-at l = l.self ≡ l.initial.self
