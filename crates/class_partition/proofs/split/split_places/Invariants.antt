use Rattle.std.proofs.Common.{length}
use Rattle.class_partition.specs.Steps.{classes_of}
use Rattle.class_partition.proofs.Places.{IsSplitSoFar}
use Rattle.class_partition.proofs.split.split_places.Given as goal

abbrev pub invariant-loop-p : goal.invariant-loop-p
invariant-loop-p l = IsSplitSoFar (length l.fn.least.items) l.p (classes_of l.fn.least.items l.fn.phase) l.fn.row l.least.items l.added
