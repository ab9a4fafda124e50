use Rattle.std.proofs.Common.{◌≡◌, ◌++◌, ◌+◌, drop}
use Rattle.dimacs_text.specs.Answers.{lrat_text}
use Rattle.dimacs_text.proofs.answer.push_lrat.Given as goal

abbrev pub invariant-loop-i : goal.invariant-loop-i
invariant-loop-i l = l.into.items ++ lrat_text (l.clauses + 1 + l.i) (drop l.i l.log) ≡ l.initial.into.items ++ lrat_text (l.clauses + 1) l.log
