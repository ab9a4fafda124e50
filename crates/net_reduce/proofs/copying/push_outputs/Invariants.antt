use Rattle.std.proofs.Common.{◌≡◌, ◌++◌, map, take}
use Rattle.net_reduce.specs.Table.{through}
use Rattle.net_reduce.proofs.copying.push_outputs.Given as goal

abbrev pub invariant-loop-i : goal.invariant-loop-i
invariant-loop-i l = l.builder ≡ record l.initial.builder { outputs = l.initial.builder.outputs ++ map (through l.table) (take l.i l.outputs) }
