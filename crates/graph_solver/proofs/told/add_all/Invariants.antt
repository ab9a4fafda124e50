use Rattle.std.proofs.Common.{◌≡◌}
use Rattle.graph_solver.proofs.told.add_all.Given as goal

abbrev pub invariant-loop-variable : goal.invariant-loop-variable
invariant-loop-variable l = l.solver ≡ l.initial.solver
