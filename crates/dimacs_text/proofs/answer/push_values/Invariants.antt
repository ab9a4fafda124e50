use Rattle.std.proofs.Common.{◌≡◌, ◌++◌, drop}
use Rattle.dimacs_text.specs.Answers.{values_text}
use Rattle.dimacs_text.proofs.answer.push_values.Given as goal

abbrev pub invariant-loop-i : goal.invariant-loop-i
invariant-loop-i l = l.into.items ++ values_text l.i (drop l.i l.row) ≡ l.initial.into.items ++ values_text 0 l.row
