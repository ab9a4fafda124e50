use Rattle.std.proofs.Common.{◌≡◌, ◌++◌, ◌-◌}
use Rattle.demo_pair.specs.Demo.{choices}
use Rattle.demo_pair.proofs.making.choose.Given as goal

abbrev pub invariant-loop-i : goal.invariant-loop-i
invariant-loop-i l = l.chosen.items ++ choices (l.count - l.i) l.generator ≡ choices l.count l.initial.generator
