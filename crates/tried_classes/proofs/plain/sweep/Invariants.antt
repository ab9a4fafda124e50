use Rattle.std.proofs.Common.{◌≡◌, ◌<◌, ◌+◌, ℕ, length}
use Rattle.circ_model.specs.Meaning.{places_of}
use Rattle.class_partition.specs.Classes.{KeepsGreatest, class_count}
use Rattle.tried_classes.specs.Plain.{AreSized, LeavesWhole}
use Rattle.tried_classes.proofs.plain.sweep.Given as goal

abbrev pub invariant-loop-number : goal.invariant-loop-number
invariant-loop-number l =
    AreSized l.product l.frames.start l.frames.state l.frames.inputs l.frames.first l.frames.second
    × (length l.classes.least ≡ places_of l.product) × KeepsGreatest l.product 1 l.classes
    × (class_count (places_of l.product) l.classes ≡ class_count (places_of l.product) l.initial.classes + l.added)
    × (l.added ≡ 0 → (l.classes ≡ l.initial.classes) × ((x : ℕ) → x < l.number → LeavesWhole l.product l.initial.classes x))
