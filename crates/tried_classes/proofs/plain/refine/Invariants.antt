use Rattle.std.proofs.Common.{◌≡◌, ◌-◌, length}
use Rattle.circ_model.specs.Meaning.{places_of}
use Rattle.class_partition.specs.Classes.{KeepsGreatest, class_count}
use Rattle.tried_classes.specs.Plain.{AreSized}
use Rattle.tried_classes.proofs.plain.refine.Given as goal

abbrev pub invariant-loop-classes : goal.invariant-loop-classes
invariant-loop-classes l =
    AreSized l.product l.frames.start l.frames.state l.frames.inputs l.frames.first l.frames.second
    × (length l.classes.least ≡ places_of l.product) × KeepsGreatest l.product 1 l.classes

abbrev pub decreases-loop-classes : goal.decreases-loop-classes
decreases-loop-classes l = places_of l.product - class_count (places_of l.product) l.classes
