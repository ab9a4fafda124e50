use Rattle.and_graph.specs.Lemmas.{GivenHold}
use Rattle.and_graph.proofs.cone.Cone.all_hold.Given as goal

abbrev pub invariant-loop-h : goal.invariant-loop-h
invariant-loop-h l = GivenHold l.nodes l.self.members.items l.self.cnf.clauses l.h
