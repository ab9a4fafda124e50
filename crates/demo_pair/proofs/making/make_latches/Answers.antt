use Rattle.std.proofs.Common.{arith}
use Rattle.demo_pair.specs.Demo.{latch_made}
use Rattle.demo_pair.proofs.Steps.{rest_more, rest_done}
use Rattle.demo_pair.proofs.making.make_latches.Goals as goal

pub loop-i-preserved : goal.loop-i-preserved
loop-i-preserved c = rest_more (latch_made c.args.variables) c.args.count c.args.first c.loop-i.i (c.loop-i.builder, c.loop-i.generator) _ _ c.loop-i.invariant c.loop-i-test.true c.in_ok-make_latch.ensures

pub returns : goal.returns
returns c = rest_done (latch_made c.args.variables) c.args.count c.args.first c.loop-i.i (c.loop-i.builder, c.loop-i.generator) _ c.loop-i.invariant (omega arith)
