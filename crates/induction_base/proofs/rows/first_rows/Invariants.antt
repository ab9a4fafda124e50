use Rattle.std.proofs.Common.{◌≡◌, take}
use Rattle.induction_base.proofs.rows.first_rows.Given as goal

abbrev pub invariant-loop-t : goal.invariant-loop-t
invariant-loop-t l = l.first ≡ take l.t l.rows
