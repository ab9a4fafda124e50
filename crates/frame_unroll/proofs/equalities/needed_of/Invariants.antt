use Rattle.std.proofs.Common.{◌≡◌}
use Rattle.frame_unroll.specs.Members.{member_pairs}
use Rattle.frame_unroll.proofs.equalities.needed_of.Given as goal

abbrev pub invariant-loop-p : goal.invariant-loop-p
invariant-loop-p l = l.pairs.items ≡ member_pairs l.p l.classes
