use Rattle.std.proofs.lemmas.Result.{IfOk-weaker}
use Rattle.frame_graph.proofs.InFrame.{literals_hold, none_then}
use Rattle.frame_graph.proofs.map.FrameMap.settle_literals.Goals as goal

pub returns-clause-holds : goal.returns-clause-holds
returns-clause-holds c =
    IfOk-weaker c.settle.result _ _ (λ found is. none_then _ _ found
    (literals_hold c.args.graph.now c.args.self.now c.args.frame c.args.a c.args.b c.reset_literal-left.result c.reset_literal-right.result c.len-nodes.ensures.graph c.requires.map c.reset_literal-left.ensures.value c.reset_literal-right.ensures.value) is)
    c.settle.ensures.equal
