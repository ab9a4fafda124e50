use Rattle.std.proofs.Common.{◌≡◌, ◌+◌, length}
use Rattle.demo_pair.specs.Demo.{output_made, each}
use Rattle.demo_pair.proofs.Steps.{Rest}
use Rattle.demo_pair.proofs.making.make_outputs.Given as goal

abbrev pub invariant-loop : goal.invariant-loop
invariant-loop l = Rest (output_made l.variables) l.count 0 l.counter (l.builder, l.generator) (each (output_made l.variables) l.count 0 (l.initial.builder, l.initial.generator)) × (length l.builder.outputs ≡ length l.initial.builder.outputs + l.counter)
