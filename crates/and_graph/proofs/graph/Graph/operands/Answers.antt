use Rattle.std.proofs.Common.{ℕ, Bool, List, sym, subst}
use Rattle.and_graph.specs.declared.node.Node.{Node}
use Rattle.and_graph.specs.Graphs.{Obeys}
use Rattle.and_graph.proofs.graph.Graph.operands.Goals as goal

pub returns-clause-value : goal.returns-clause-value
returns-clause-value c v obeys =
    c.operands_of.ensures.value v (subst (λ (xs : List Node). Obeys xs v) (sym c.as_slice.ensures.value) (subst (λ (xs : List Node). Obeys xs v) (sym c.self.view_is) obeys))
