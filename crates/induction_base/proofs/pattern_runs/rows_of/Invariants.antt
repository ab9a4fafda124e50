use Rattle.std.proofs.Common.{◌≡◌, length}
use Rattle.induction_base.proofs.pattern_runs.rows_of.Given as goal

abbrev pub invariant-loop-frame : goal.invariant-loop-frame
invariant-loop-frame l = length l.rows ≡ l.frame
