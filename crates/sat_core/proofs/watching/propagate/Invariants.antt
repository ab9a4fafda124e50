use Rattle.std.proofs.Common.{◌-◌}
use Rattle.sat_core.specs.Watching.{Grows}
use Rattle.sat_core.proofs.watching.propagate.Given as goal

abbrev pub invariant-queue : goal.invariant-queue
invariant-queue l = Grows l.initial.s l.s

abbrev pub decreases-queue : goal.decreases-queue
decreases-queue l = l.s.vars - l.head
