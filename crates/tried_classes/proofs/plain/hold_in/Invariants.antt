use Rattle.std.proofs.Common.{◌≡◌, ◌<◌, ℕ}
use Rattle.class_partition.specs.Classes.{least_of, relative}
use Rattle.tried_classes.proofs.plain.hold_in.Given as goal

abbrev pub invariant-loop-place : goal.invariant-loop-place
invariant-loop-place l = (q : ℕ) → q < l.place → relative l.classes l.row (least_of l.classes q) ≡ relative l.classes l.row q
