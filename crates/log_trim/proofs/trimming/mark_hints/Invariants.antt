use Rattle.std.proofs.Common.{take}
use Rattle.log_trim.specs.Trimming.{AddsMarks}
use Rattle.log_trim.proofs.trimming.mark_hints.Given as goal

abbrev pub invariant-loop-hint : goal.invariant-loop-hint
invariant-loop-hint l = AddsMarks l.given (take l.hint-index l.hints) l.i l.initial.marks l.marks
