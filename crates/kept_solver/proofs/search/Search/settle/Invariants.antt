use Rattle.std.proofs.Common.{◌≡◌}
use Rattle.kept_solver.proofs.search.Search.settle.Given as goal

abbrev pub invariant-loop-place : goal.invariant-loop-place
invariant-loop-place l = l.store.given ≡ l.initial.store.given
