use Rattle.std.proofs.Common.{◌≡◌}
use Rattle.and_graph.specs.Cones.{IsCone}
use Rattle.and_graph.proofs.cone.Cone.recall_at.Given as goal

abbrev pub invariant-loop : goal.invariant-loop
invariant-loop l = record { members : l.self.members.items ≡ l.fn.self.members.items; cone : IsCone l.nodes l.self.members.items l.self.cnf }
