use Rattle.std.proofs.Common.{take}
use Rattle.log_check.specs.Reached.{AddsMarks}
use Rattle.log_check.proofs.reaching.mark_hints.Given as goal

abbrev pub invariant-loop-i : goal.invariant-loop-i
invariant-loop-i l = AddsMarks (take l.i l.hints) l.initial.marks l.marks
