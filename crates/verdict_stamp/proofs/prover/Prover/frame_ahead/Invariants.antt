use Rattle.std.proofs.Common.{◌≡◌}
use Rattle.verdict_stamp.proofs.prover.Prover.frame_ahead.Given as goal

abbrev pub invariant-loop-member : goal.invariant-loop-member
invariant-loop-member l = (l.self ≡ l.initial.self) × (l.asker.most ≡ l.initial.asker.most)
