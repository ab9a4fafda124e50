use Rattle.std.proofs.Common.{◌≡◌}
use Rattle.graph_solver.specs.Known.{IsKept}
use Rattle.graph_solver.proofs.solver.approach.Given as goal

abbrev pub invariant-loop : goal.invariant-loop
invariant-loop l = IsKept l.graph l.told × (l.told.facts ≡ l.initial.told.facts)
