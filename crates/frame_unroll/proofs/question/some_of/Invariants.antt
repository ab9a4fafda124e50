use Rattle.std.proofs.Common.{◌≡◌, ◌+◌, map, true}
use Rattle.std.specs.List.{range_with_len}
use Rattle.frame_unroll.specs.Frames.{cnf_literal}
use Rattle.frame_unroll.proofs.question.some_of.Given as goal

abbrev pub invariant-loop-i : goal.invariant-loop-i
invariant-loop-i l = l.clause.items ≡ map (λ i. cnf_literal true (l.d + i)) (range_with_len 0 l.i)
