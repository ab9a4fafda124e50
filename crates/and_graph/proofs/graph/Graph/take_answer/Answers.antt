use Rattle.std.proofs.Common.{ℕ, List, Option, IfSome, subst}
use Rattle.and_graph.specs.declared.node.Node.{Node}
use Rattle.and_graph.specs.Graphs.{AreEqual, Obeys}
use Rattle.and_graph.proofs.graph.Graph.take_answer.Goals as goal

pub merge_equal-requires-clause-equal : goal.merge_equal-requires-clause-equal
merge_equal-requires-clause-equal c =
    let equal = subst (λ (o : Option (ℕ × ℕ)). IfSome o (λ s. AreEqual c.as_slice.result.now s.0 s.1)) c.in-Some.is c.in_ok-found.ensures.equal in
    subst (λ (xs : List Node). AreEqual xs c.in-Some.same.0 c.in-Some.same.1) c.as_slice.ensures.value equal

pub returns-in-Some-clause-valuations : goal.returns-in-Some-clause-valuations
returns-in-Some-clause-valuations c v = subst (λ (xs : List Node). (Obeys xs v → Obeys c.merge_equal.new.self v) × (Obeys c.merge_equal.new.self v → Obeys xs v)) c.self.view_is (c.merge_equal.ensures.valuations v)
