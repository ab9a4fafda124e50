use Rattle.std.proofs.Common.{◌≡◌, length}
use Rattle.induction_base.proofs.pattern_runs.take_inputs.Given as goal

abbrev pub invariant-loop-at : goal.invariant-loop-at
invariant-loop-at l = length l.row ≡ length l.initial.row
