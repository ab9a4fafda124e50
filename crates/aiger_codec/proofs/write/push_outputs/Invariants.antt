use Rattle.std.proofs.Common.{◌≡◌, ◌++◌, drop}
use Rattle.aiger_codec.specs.Writing.{lines_text, output_text}
use Rattle.aiger_codec.proofs.write.push_outputs.Given as goal

abbrev pub invariant-loop-i : goal.invariant-loop-i
invariant-loop-i l = l.into.items ++ lines_text output_text (drop l.i l.outputs) ≡ l.initial.into.items ++ lines_text output_text l.outputs
