use Rattle.std.proofs.Common.{◌+◌, ap, arith}
use Rattle.circ_model.specs.Netlist.{Netlist}
use Rattle.demo_pair.specs.Demo.{input_made, Making}
use Rattle.demo_pair.proofs.Steps.{rest_more, rest_done, input_is}
use Rattle.demo_pair.proofs.making.make_inputs.Goals as goal

pub loop-i-preserved : goal.loop-i-preserved
loop-i-preserved c = λ g.
    let same : Netlist → Making = λ b. (b, g) in
    rest_more input_made c.args.count 1 c.loop-i.i (c.loop-i.builder, g) (c.input.new.self, g) _ (c.loop-i.invariant g) c.loop-i-test.true (ap same (input_is c.loop-i.builder c.input.new.self (1 + c.loop-i.i) c.in_ok-input.ensures))

pub returns : goal.returns
returns c = λ g. rest_done input_made c.args.count 1 c.loop-i.i (c.loop-i.builder, g) _ (c.loop-i.invariant g) (omega arith)
