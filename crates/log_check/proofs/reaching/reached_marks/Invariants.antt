use Rattle.std.proofs.Common.{length}
use Rattle.log_check.proofs.Marking.{SoFar}
use Rattle.log_check.proofs.reaching.reached_marks.Given as goal

abbrev pub invariant-loop-i : goal.invariant-loop-i
invariant-loop-i l = SoFar (length l.formula.clauses) l.log l.i l.marks

abbrev pub decreases-loop-i : goal.decreases-loop-i
decreases-loop-i l = l.i
