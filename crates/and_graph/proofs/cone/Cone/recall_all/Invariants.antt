use Rattle.std.proofs.Common.{◌≡◌}
use Rattle.and_graph.specs.Cones.{IsCone}
use Rattle.and_graph.proofs.cone.Cone.recall_all.Given as goal

abbrev pub invariant-loop-j : goal.invariant-loop-j
invariant-loop-j l = record { members : l.self.members.items ≡ l.fn.self.members.items; cone : IsCone l.nodes l.self.members.items l.self.cnf }
