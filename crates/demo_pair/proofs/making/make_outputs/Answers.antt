use Rattle.std.proofs.Common.{◌+◌, length, ap, arith}
use Rattle.demo_pair.specs.Demo.{Making, output_made}
use Rattle.demo_pair.proofs.Steps.{rest_more, rest_done}
use Rattle.demo_pair.proofs.Made.{output_adds}
use Rattle.demo_pair.proofs.making.make_outputs.Goals as goal

pub loop-preserved : goal.loop-preserved
loop-preserved c =
    let before : Making = (c.loop.builder, c.loop.generator) in
    let made = c.in_ok-make_output.ensures.made (0 + c.loop.counter) in
    let grown = ap (λ (s : Making). length s.0.outputs) made in (
      rest_more (output_made c.args.variables) c.args.count 0 c.loop.counter before _ _ c.loop.invariant.0 c.loop-test.true made,
      omega (arith, grown, output_adds c.args.variables (0 + c.loop.counter) before, c.loop.invariant.1),
    )

pub returns : goal.returns
returns c = rest_done (output_made c.args.variables) c.args.count 0 c.loop.counter (c.loop.builder, c.loop.generator) _ c.loop.invariant.0 (omega arith)
