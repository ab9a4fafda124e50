use Rattle.std.proofs.Common.{◌≡◌, ◌++◌, map, drop}
use Rattle.aiger_codec.specs.Writing.{lines_text}
use Rattle.aiger_codec.specs.Renumbering.{gate_by, says}
use Rattle.aiger_codec.specs.BinaryWriting.{deltas_text}
use Rattle.aiger_codec.proofs.write_binary.push_gates.Given as goal

abbrev pub invariant-loop-i : goal.invariant-loop-i
invariant-loop-i l = l.into.items ++ lines_text deltas_text (map (gate_by (says l.table)) (drop l.i l.gates)) ≡ l.initial.into.items ++ lines_text deltas_text (map (gate_by (says l.table)) l.gates)
