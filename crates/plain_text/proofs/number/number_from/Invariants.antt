use Rattle.std.proofs.Common.{◌-◌}
use Rattle.plain_text.proofs.Digits.{Reads}
use Rattle.plain_text.proofs.number.number_from.Given as goal

abbrev pub invariant-loop-end : goal.invariant-loop-end
invariant-loop-end l = Reads l.bytes l.start l.end l.value

abbrev pub decreases-loop-end : goal.decreases-loop-end
decreases-loop-end l = l.len - l.end
