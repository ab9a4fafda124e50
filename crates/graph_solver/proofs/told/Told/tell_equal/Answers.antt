use Rattle.std.proofs.Common.{subst}
use Rattle.and_graph.specs.Graphs.{AllEqual}
use Rattle.graph_solver.proofs.Clauses.{equal_first, equal_second}
use Rattle.graph_solver.proofs.told.Told.tell_equal.Goals as goal

pub tell_pair-requires-clause-holds : goal.tell_pair-requires-clause-holds
tell_pair-requires-clause-holds c v obeys equal = equal_first v c.args.x c.args.y c.not.result c.not.ensures (c.requires.equal v obeys equal)

pub tell_pair-requires-2-clause-holds : goal.tell_pair-requires-2-clause-holds
tell_pair-requires-2-clause-holds c v obeys equal = equal_second v c.args.x c.args.y c.not-2.result c.not-2.ensures (c.requires.equal v obeys (subst (AllEqual v) c.in_ok-tell_pair.ensures.facts equal))
