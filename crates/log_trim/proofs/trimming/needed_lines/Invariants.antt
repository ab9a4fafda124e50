use Rattle.log_trim.proofs.Marking.{SoFar}
use Rattle.log_trim.proofs.trimming.needed_lines.Given as goal

abbrev pub invariant-loop-i : goal.invariant-loop-i
invariant-loop-i l = SoFar l.given l.log l.i l.marks.items

abbrev pub decreases-loop-i : goal.decreases-loop-i
decreases-loop-i l = l.i
