use Rattle.std.proofs.Common.{sym}
use Rattle.and_graph.proofs.Nodes.{agrees_by}
use Rattle.and_graph.proofs.graph.Graph.canonical.Goals as goal

pub returns-clause-equal : goal.returns-clause-equal
returns-clause-equal c v obeys = sym (c.canonical_of.ensures.value v (agrees_by c.self.inside.nodes.items c.args.self.now c.as_slice.result.now v c.self.invariant.0 c.self.view_is c.as_slice.ensures.value obeys))
