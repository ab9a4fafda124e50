use Rattle.std.proofs.Common.{◌≡◌, ◌<◌, ℕ, []}
use Rattle.aig_graph.specs.Walk.{Between, IsDone, var_in}
use Rattle.aig_graph.proofs.levels.settle_all.Given as goal

abbrev pub invariant-loop-number : goal.invariant-loop-number
invariant-loop-number l = record {
  between : Between l.defs l.gates l.level;
  empty : l.stack.items ≡ [];
  done : (k : ℕ) → k < l.number → IsDone l.level (var_in l.gates k);
}
