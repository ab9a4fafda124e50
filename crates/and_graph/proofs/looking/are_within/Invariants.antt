use Rattle.std.proofs.Common.{◌<◌, ℕ}
use Rattle.and_graph.specs.Cones.{member_at}
use Rattle.and_graph.proofs.looking.are_within.Given as goal

abbrev pub invariant-loop-n : goal.invariant-loop-n
invariant-loop-n l = (j : ℕ) → j < l.n-index → member_at l.members j < l.size
