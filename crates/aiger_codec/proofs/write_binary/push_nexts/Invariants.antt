use Rattle.std.proofs.Common.{◌≡◌, ◌++◌, map, drop}
use Rattle.aiger_codec.specs.Writing.{lines_text}
use Rattle.aiger_codec.specs.Renumbering.{latch_by, says}
use Rattle.aiger_codec.specs.BinaryWriting.{next_text}
use Rattle.aiger_codec.proofs.write_binary.push_nexts.Given as goal

abbrev pub invariant-loop-i : goal.invariant-loop-i
invariant-loop-i l = l.into.items ++ lines_text next_text (map (latch_by (says l.table)) (drop l.i l.latches)) ≡ l.initial.into.items ++ lines_text next_text (map (latch_by (says l.table)) l.latches)
