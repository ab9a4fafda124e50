use Rattle.std.proofs.Common.{◌≡◌, ◌++◌, drop}
use Rattle.sat_log.specs.Texts.{literals_text}
use Rattle.sat_log.proofs.write.push_literals.Given as goal

abbrev pub invariant-loop-literal : goal.invariant-loop-literal
invariant-loop-literal l = l.into.items ++ literals_text (drop l.literal-index l.literals) ≡ l.initial.into.items ++ literals_text l.literals
