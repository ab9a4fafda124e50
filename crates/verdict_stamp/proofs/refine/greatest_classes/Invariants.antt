use Rattle.std.proofs.Common.{◌≡◌, ◌-◌}
use Rattle.circ_model.specs.Meaning.{places_of}
use Rattle.class_partition.specs.Classes.{class_count}
use Rattle.verdict_stamp.proofs.refine.greatest_classes.Given as goal

abbrev pub invariant-loop-version : goal.invariant-loop-version
invariant-loop-version l = (l.version.pair ≡ l.product) × (l.version.k ≡ l.k)

abbrev pub decreases-loop-version : goal.decreases-loop-version
decreases-loop-version l = places_of l.product - class_count (places_of l.product) l.version.classes
