use Rattle.and_graph.specs.Cones.{GoesOn, IsCone}
use Rattle.and_graph.proofs.cone.Cone.grow.Given as goal

abbrev pub invariant-loop : goal.invariant-loop
invariant-loop l = record { on : GoesOn l.fn.self.members.items l.self.members.items; cone : IsCone l.nodes l.self.members.items l.self.cnf }
