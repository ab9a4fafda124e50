use Rattle.demo_pair.specs.Demo.{gate_made, each}
use Rattle.demo_pair.proofs.Steps.{Rest}
use Rattle.demo_pair.proofs.making.make_gates.Given as goal

abbrev pub invariant-loop-i : goal.invariant-loop-i
invariant-loop-i l = Rest gate_made l.count l.first l.i (l.builder, l.generator) (each gate_made l.count l.first (l.initial.builder, l.initial.generator))
