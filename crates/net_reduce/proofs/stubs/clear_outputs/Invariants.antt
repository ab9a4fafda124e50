use Rattle.std.proofs.Common.{◌≡◌}
use Rattle.std.specs.Prelude.{replicate}
use Rattle.net_reduce.proofs.stubs.clear_outputs.Given as goal

abbrev pub invariant-loop : goal.invariant-loop
invariant-loop l = l.builder ≡ record l.initial.builder { outputs = replicate l.counter 0 }
