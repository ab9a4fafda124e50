use Rattle.rand_pcg.specs.Lcg.{Lcg}
use Rattle.demo_pair.specs.Demo.{input_made, each}
use Rattle.demo_pair.proofs.Steps.{Rest}
use Rattle.demo_pair.proofs.making.make_inputs.Given as goal

abbrev pub invariant-loop-i : goal.invariant-loop-i
invariant-loop-i l = (g : Lcg) → Rest input_made l.count 1 l.i (l.builder, g) (each input_made l.count 1 (l.initial.builder, g))
