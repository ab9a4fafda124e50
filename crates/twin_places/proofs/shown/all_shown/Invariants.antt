use Rattle.std.proofs.Common.{◌≡◌, ◌<◌, ℕ}
use Rattle.class_partition.specs.Classes.{Passes}
use Rattle.twin_places.proofs.shown.all_shown.Given as goal

abbrev pub invariant-loop-place : goal.invariant-loop-place
invariant-loop-place l = record {
  kept : l.sweep ≡ l.fn.sweep;
  passes : (p : ℕ) → p < l.place → Passes l.fn.sweep.pair l.fn.sweep.k l.fn.sweep.classes p;
}
