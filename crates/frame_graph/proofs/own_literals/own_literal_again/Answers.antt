use Rattle.std.proofs.Common.{◌+◌}
use Rattle.std.proofs.lemmas.Result.{IfOk-weaker}
use Rattle.frame_graph.specs.Frames.{frame_of}
use Rattle.frame_graph.proofs.Showing.{stands_before}
use Rattle.frame_graph.proofs.own_literals.own_literal_again.Goals as goal

pub returns-clause-value : goal.returns-clause-value
returns-clause-value c = IfOk-weaker c.own_literal.result _ _ (λ lit says path v obeys is. says path v obeys (stands_before (frame_of c.args.frame.now) c.args.literals.now path v (c.args.frame.now.begin + c.args.p) is)) c.own_literal.ensures.value
