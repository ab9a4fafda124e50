use Rattle.std.proofs.Common.{◌≡◌, ◌++◌, map, take}
use Rattle.demo_pair.specs.Demo.{turned}
use Rattle.demo_pair.proofs.copying.copy_outputs.Given as goal

abbrev pub invariant-loop-i : goal.invariant-loop-i
invariant-loop-i l = l.builder ≡ record l.initial.builder { outputs = l.initial.builder.outputs ++ map (turned l.n l.chosen) (take l.i l.outputs) }
