use Rattle.std.proofs.Common.{IfNone}
use Rattle.std.proofs.lemmas.Result.{IfOk-weaker}
use Rattle.and_graph.specs.Graphs.{AreEqual}
use Rattle.and_graph.proofs.Questions.{none_between}
use Rattle.and_graph.proofs.asking.Asker.difference.Goals as goal

pub returns-then-is_none-clause-equal : goal.returns-then-is_none-clause-equal
returns-then-is_none-clause-equal c =
    none_between c.in_ok-near.near c.args.nodes.now c.args.a c.args.b c.canonical_of-x.result c.canonical_of-y.result c.requires.graph c.canonical_of-x.ensures.value c.canonical_of-y.ensures.value c.in_ok-near.ensures.equal

pub returns-clause-equal : goal.returns-clause-equal
returns-clause-equal c = IfOk-weaker c.ask-2.result
    (λ found. IfNone found (AreEqual c.args.nodes.now c.canonical_of-x.result c.canonical_of-y.result))
    (λ found. IfNone found (AreEqual c.args.nodes.now c.args.a c.args.b))
    (λ found says. none_between found c.args.nodes.now c.args.a c.args.b c.canonical_of-x.result c.canonical_of-y.result c.requires.graph c.canonical_of-x.ensures.value c.canonical_of-y.ensures.value says)
    c.ask-2.ensures.equal
