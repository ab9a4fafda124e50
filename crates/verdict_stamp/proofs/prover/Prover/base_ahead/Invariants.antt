use Rattle.std.proofs.Common.{◌≡◌}
use Rattle.verdict_stamp.proofs.prover.Prover.base_ahead.Given as goal

abbrev pub invariant-loop-frame : goal.invariant-loop-frame
invariant-loop-frame l = (l.self ≡ l.initial.self) × (l.asker.most ≡ l.initial.asker.most)
