use Rattle.std.proofs.Common.{◌≡◌, ◌++◌, map, drop}
use Rattle.circ_model.specs.Meaning.{literal_by}
use Rattle.aiger_codec.specs.Writing.{lines_text, output_text}
use Rattle.aiger_codec.specs.Renumbering.{says}
use Rattle.aiger_codec.proofs.write_binary.push_outputs.Given as goal

abbrev pub invariant-loop-i : goal.invariant-loop-i
invariant-loop-i l = l.into.items ++ lines_text output_text (map (literal_by (says l.table)) (drop l.i l.outputs)) ≡ l.initial.into.items ++ lines_text output_text (map (literal_by (says l.table)) l.outputs)
