use Rattle.std.proofs.Common.{◌≡◌, ◌++◌}
use Rattle.std.specs.List.{range_with_len}
use Rattle.net_reduce.proofs.stubs.number_inputs.Given as goal

abbrev pub invariant-loop-i : goal.invariant-loop-i
invariant-loop-i l = l.builder ≡ record l.initial.builder { inputs = l.initial.builder.inputs ++ range_with_len 1 l.i }
