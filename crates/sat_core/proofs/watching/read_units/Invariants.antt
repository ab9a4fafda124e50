use Rattle.sat_core.specs.Watching.{Grows}
use Rattle.sat_core.proofs.watching.read_units.Given as goal

abbrev pub invariant-loop-unit : goal.invariant-loop-unit
invariant-loop-unit l = Grows l.initial.s l.s
