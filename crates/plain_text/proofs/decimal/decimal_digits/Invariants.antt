use Rattle.plain_text.proofs.Placed.{Placed}
use Rattle.plain_text.proofs.decimal.decimal_digits.Given as goal

abbrev pub invariant-loop-rest : goal.invariant-loop-rest
invariant-loop-rest l = Placed l.n l.rest l.start l.digits

abbrev pub decreases-loop-rest : goal.decreases-loop-rest
decreases-loop-rest l = l.rest
