use Rattle.std.proofs.Common.{◌≡◌, length}
use Rattle.induction_base.proofs.pattern_runs.take_latches.Given as goal

abbrev pub invariant-loop-at : goal.invariant-loop-at
invariant-loop-at l = length l.start ≡ length l.initial.start
