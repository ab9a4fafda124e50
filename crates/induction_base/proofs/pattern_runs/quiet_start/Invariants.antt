use Rattle.std.proofs.Common.{◌≡◌, length}
use Rattle.circ_model.specs.Meaning.{latches_of}
use Rattle.induction_base.proofs.pattern_runs.quiet_start.Given as goal

abbrev pub invariant-loop-i : goal.invariant-loop-i
invariant-loop-i l = length l.start ≡ latches_of l.product
