use Rattle.std.proofs.Common.{◌≡◌, ◌++◌, map, take}
use Rattle.demo_pair.specs.Demo.{copied_latch}
use Rattle.demo_pair.proofs.copying.copy_latches.Given as goal

abbrev pub invariant-loop-i : goal.invariant-loop-i
invariant-loop-i l = l.builder ≡ record l.initial.builder { latches = l.initial.builder.latches ++ map (copied_latch l.n l.chosen) (take l.i l.latches) }
