use Rattle.and_graph.specs.Cones.{GoesOn, IsCone}
use Rattle.and_graph.proofs.cone.Cone.recall_equals.Given as goal

abbrev pub invariant-loop-i : goal.invariant-loop-i
invariant-loop-i l = GoesOn l.fn.self.members.items l.self.members.items × IsCone l.fn.nodes l.self.members.items l.self.cnf
