use Rattle.std.proofs.Common.{length}
use Rattle.indexmap.specs.IndexMap.{get}
use Rattle.class_partition.specs.Steps.{classes_of}
use Rattle.class_partition.specs.WordSteps.{same_part}
use Rattle.class_partition.proofs.WordPlaces.{IsSplitSoFar}
use Rattle.class_partition.proofs.parts.split_places.Given as goal

abbrev pub invariant-loop-p : goal.invariant-loop-p
invariant-loop-p l = IsSplitSoFar (length l.fn.least) l.p (classes_of l.fn.least l.fn.phase) l.fn.words (get same_part l.parts) l.after l.added
