use Rattle.std.proofs.Common.{◌≡◌, vec_len, vec_capacity}
use Rattle.std.specs.List.{range_with_len}
use Rattle.refine_board.proofs.touched.touch_all.Given as goal

abbrev pub invariant-loop-p : goal.invariant-loop-p
invariant-loop-p l = (l.touched.items ≡ range_with_len 0 l.p) × (vec_len l.touched ≡ l.p) × (vec_capacity l.touched ≡ vec_capacity l.fn.touched)
