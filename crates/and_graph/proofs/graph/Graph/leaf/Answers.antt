use Rattle.std.proofs.Common.{List, rules, sym, subst, arith}
use Rattle.and_graph.specs.declared.node.Node.{Node}
use Rattle.and_graph.specs.Graphs.{GrowsTo, IsGraph}
use Rattle.and_graph.proofs.Learning.{lemmas_on}
use Rattle.and_graph.proofs.Nodes.{grown, leaf_added}
use Rattle.and_graph.proofs.graph.Graph.leaf.Goals as goal

pub invariant_of-self-2 : goal.invariant_of-self-2
invariant_of-self-2 c =
    let nodes : List Node = c.self.inside.nodes.items in (
      subst IsGraph (sym c.in_ok-push.ensures.items) (leaf_added nodes c.of-own.result c.self.invariant.0 (omega (arith, c.if-n-ge-MOST_NODES.false, c.len-n.ensures)) (search rules)),
      lemmas_on nodes c.push.new.self.items c.self.inside.lemmas.clauses (subst (GrowsTo nodes) (sym c.in_ok-push.ensures.items) (grown nodes _)) c.self.invariant.1,
    )
