use Rattle.std.proofs.Common.{◌≡◌, drop}
use Rattle.used_pairs.specs.Lists.{all_together}
use Rattle.used_pairs.proofs.list.PairList.are_together.Given as goal

-- what is left of the list decides
abbrev pub invariant-loop-pair : goal.invariant-loop-pair
invariant-loop-pair l = all_together l.classes (drop l.pair-index l.pair-items) ≡ all_together l.fn.classes l.fn.self
