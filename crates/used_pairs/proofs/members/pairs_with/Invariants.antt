use Rattle.std.proofs.Common.{◌≡◌}
use Rattle.used_pairs.specs.Logs.{pairs_with}
use Rattle.used_pairs.proofs.members.pairs_with.Given as goal

abbrev pub invariant-loop-p : goal.invariant-loop-p
invariant-loop-p l = l.pairs.items ≡ pairs_with l.classes l.bits l.p
