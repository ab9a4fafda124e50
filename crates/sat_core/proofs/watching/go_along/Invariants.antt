use Rattle.sat_core.specs.Watching.{Grows}
use Rattle.sat_core.proofs.watching.go_along.Given as goal

abbrev pub invariant-loop : goal.invariant-loop
invariant-loop l = Grows l.initial.s l.s
