use Rattle.std.proofs.Common.{◌≡◌, ◌++◌, map, take}
use Rattle.demo_pair.specs.Demo.{copied_gate}
use Rattle.demo_pair.proofs.copying.copy_gates.Given as goal

abbrev pub invariant-loop-i : goal.invariant-loop-i
invariant-loop-i l = l.builder ≡ record l.initial.builder { gates = l.initial.builder.gates ++ map (copied_gate l.n l.chosen) (take l.i l.gates) }
