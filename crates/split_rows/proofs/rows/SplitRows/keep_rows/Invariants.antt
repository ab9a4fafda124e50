use Rattle.std.proofs.Common.{◌≡◌}
use Rattle.split_rows.proofs.rows.SplitRows.keep_rows.Given as goal

abbrev pub invariant-loop-lane : goal.invariant-loop-lane
invariant-loop-lane l = l.self ≡ l.initial.self
