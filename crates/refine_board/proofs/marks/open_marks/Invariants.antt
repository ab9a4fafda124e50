use Rattle.std.proofs.Common.{◌≡◌, replicate}
use Rattle.refine_board.specs.declared.marks.Mark.TheVariants.{Open}
use Rattle.refine_board.proofs.marks.open_marks.Given as goal

abbrev pub invariant-loop-place : goal.invariant-loop-place
invariant-loop-place l = l.marks.items ≡ replicate l._place Open
