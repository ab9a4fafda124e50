use Rattle.std.proofs.Common.{◌≡◌, vec_capacity}
use Rattle.refine_board.proofs.Reopening.{IsHalfway}
use Rattle.refine_board.proofs.touched.reopen_touched.Given as goal

abbrev pub invariant-loop-i : goal.invariant-loop-i
invariant-loop-i l = IsHalfway l.classes l.i l.fn.marks.items l.marks.items l.touched.items × (vec_capacity l.touched ≡ vec_capacity l.fn.touched)

abbrev pub decreases-loop-i : goal.decreases-loop-i
decreases-loop-i l = l.i
