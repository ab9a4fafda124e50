use Rattle.std.proofs.Common.{◌∙◌}
use Rattle.and_graph.proofs.Learning.{lemmas_on}
use Rattle.and_graph.proofs.Nodes.{agrees_by, known_value}
use Rattle.and_graph.proofs.graph.Graph.known_gate.Goals as goal

pub returns-in-Some-clause-value : goal.returns-in-Some-clause-value
returns-in-Some-clause-value c v obeys =
    known_value c.args.self.now c.as_slice.result.now v c.in-Some.n c.args.a c.args.b c.of.result c.canonical_of.result (c.as_slice.ensures.value ∙ c.self.view_is) obeys c.in-Some.ensures.within c.in-Some.ensures.operands.0 c.in-Some.ensures.operands.1 c.of.ensures
    (c.canonical_of.ensures.value v (agrees_by c.self.inside.nodes.items c.args.self.now c.as_slice-in-Some.result.now v c.self.invariant.0 c.self.view_is c.as_slice-in-Some.ensures.value obeys))

pub invariant_of-self-2 : goal.invariant_of-self-2
invariant_of-self-2 c = (c.add_gate.ensures.graph, lemmas_on c.self.inside.nodes.items c.add_gate.new.nodes.items c.self.inside.lemmas.clauses c.add_gate.ensures.on c.self.invariant.1)
