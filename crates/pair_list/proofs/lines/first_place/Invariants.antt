use Rattle.std.proofs.Common.{take}
use Rattle.pair_list.specs.Lists.{HasNone}
use Rattle.pair_list.proofs.lines.first_place.Given as goal

abbrev pub invariant-loop-at : goal.invariant-loop-at
invariant-loop-at l = HasNone l.byte (take l.at l.bytes)
