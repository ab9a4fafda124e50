use Rattle.std.proofs.Common.{◌<◌}
use Rattle.and_graph.proofs.hashing.Table.new.Given as goal

abbrev pub invariant-loop : goal.invariant-loop
invariant-loop l = 0 < l.size
