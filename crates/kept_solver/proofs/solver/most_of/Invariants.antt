use Rattle.std.proofs.Common.{◌≤◌, ℕ, take}
use Rattle.std.specs.List.{All}
use Rattle.kept_solver.proofs.solver.most_of.Given as goal

abbrev pub invariant-loop-l : goal.invariant-loop-l
invariant-loop-l l = All (λ (c : ℕ). c ≤ l.most) (take l.l-index l.clause)
