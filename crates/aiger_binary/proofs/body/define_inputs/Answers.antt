use Rattle.aiger_binary.proofs.Bodies.{input_next}
use Rattle.aiger_binary.proofs.body.define_inputs.Goals as goal

pub loop-i-preserved : goal.loop-i-preserved
loop-i-preserved c = input_next c.args.header.now.m c.loop-i.i c.loop-i.builder c.input.new.self c.loop-i.invariant c.in-Ok.ensures
