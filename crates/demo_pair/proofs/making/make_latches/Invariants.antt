use Rattle.demo_pair.specs.Demo.{latch_made, each}
use Rattle.demo_pair.proofs.Steps.{Rest}
use Rattle.demo_pair.proofs.making.make_latches.Given as goal

abbrev pub invariant-loop-i : goal.invariant-loop-i
invariant-loop-i l = Rest (latch_made l.variables) l.count l.first l.i (l.builder, l.generator) (each (latch_made l.variables) l.count l.first (l.initial.builder, l.initial.generator))
