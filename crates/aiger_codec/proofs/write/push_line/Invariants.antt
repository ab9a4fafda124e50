use Rattle.std.proofs.Common.{◌≡◌, ◌++◌, drop}
use Rattle.aiger_codec.specs.Writing.{more_text, line_text}
use Rattle.aiger_codec.proofs.write.push_line.Given as goal

abbrev pub invariant-loop-i : goal.invariant-loop-i
invariant-loop-i l = l.into.items ++ more_text (drop l.i l.others) ≡ l.fn.into.items ++ line_text l.first l.others
