use Rattle.class_partition.proofs.Tallying.{Tallied}
use Rattle.class_partition.proofs.least.count_least.Given as goal

abbrev pub invariant-loop-p : goal.invariant-loop-p
invariant-loop-p l = Tallied l.fn.least l.count l.p
