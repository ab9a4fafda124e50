use Rattle.std.proofs.Common.{◌∙◌, subst, sym, arith}
use Rattle.and_graph.specs.Lemmas.{SomeHolds}
use Rattle.and_graph.proofs.cone.Cone.recall_at.Goals as goal

pub recall-requires-clause-graph : goal.recall-requires-clause-graph
recall-requires-clause-graph c = c.requires.graph

pub recall-requires-clause-holds : goal.recall-requires-clause-holds
recall-requires-clause-holds c = λ v obeys. subst (SomeHolds v) (sym c.get-lemma.ensures) (c.requires.lemmas.hold c.loop.at v (omega arith) obeys)

pub recall-requires-clause-cone : goal.recall-requires-clause-cone
recall-requires-clause-cone c = c.loop.invariant.cone

pub loop-preserved : goal.loop-preserved
loop-preserved c = record { members = c.recall.ensures.members ∙ c.loop.invariant.members; cone = c.in_ok-recall.ensures.cone }
