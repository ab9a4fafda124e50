use Rattle.std.proofs.Common.{◌≡◌, ◌++◌, drop}
use Rattle.aiger_codec.specs.Writing.{lines_text, gate_text}
use Rattle.aiger_codec.proofs.write.push_gates.Given as goal

abbrev pub invariant-loop-i : goal.invariant-loop-i
invariant-loop-i l = l.into.items ++ lines_text gate_text (drop l.i l.gates) ≡ l.initial.into.items ++ lines_text gate_text l.gates
