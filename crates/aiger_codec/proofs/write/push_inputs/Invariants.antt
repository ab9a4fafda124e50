use Rattle.std.proofs.Common.{◌≡◌, ◌++◌, drop}
use Rattle.aiger_codec.specs.Writing.{lines_text, input_text}
use Rattle.aiger_codec.proofs.write.push_inputs.Given as goal

abbrev pub invariant-loop-i : goal.invariant-loop-i
invariant-loop-i l = l.into.items ++ lines_text input_text (drop l.i l.inputs) ≡ l.initial.into.items ++ lines_text input_text l.inputs
