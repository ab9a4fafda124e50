use Rattle.std.proofs.Common.{◌≡◌, ◌++◌, take}
use Rattle.net_reduce.proofs.copying.push_inputs.Given as goal

abbrev pub invariant-loop-i : goal.invariant-loop-i
invariant-loop-i l = l.builder ≡ record l.initial.builder { inputs = l.initial.builder.inputs ++ take l.i l.inputs }
