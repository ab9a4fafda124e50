use Rattle.std.proofs.Common.{◌≡◌}
use Rattle.kept_solver.proofs.search.Search.run.Given as goal

abbrev pub invariant-loop : goal.invariant-loop
invariant-loop l = l.store.given ≡ l.initial.store.given
