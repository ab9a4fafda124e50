use Rattle.std.proofs.Common.{rules, List, sym, subst, arith}
use Rattle.and_graph.specs.declared.node.Node.{Node}
use Rattle.and_graph.specs.Graphs.{IsGraph, Obeys}
use Rattle.and_graph.proofs.Nodes.{gate_added, added_value}
use Rattle.and_graph.proofs.graph.add_gate.Goals as goal

pub returns-clause-graph : goal.returns-clause-graph
returns-clause-graph c =
    subst IsGraph (sym c.in_ok-push.ensures.items) (gate_added c.args.nodes.now.items c.args.a c.args.b c.of-own.result c.requires.graph (omega (arith, c.if-n-ge-MOST_NODES.false, c.len-n.ensures)) c.requires.left c.requires.right (search rules))

pub returns-clause-value : goal.returns-clause-value
returns-clause-value c v obeys =
    added_value c.args.nodes.now.items (record { left = c.args.a; right = c.args.b; canonical = c.of-own.result }) v c.of-own.result (subst (λ (xs : List Node). Obeys xs v) c.in_ok-push.ensures.items obeys) (search rules)
