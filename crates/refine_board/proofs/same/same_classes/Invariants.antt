use Rattle.std.proofs.Common.{◌≡◌, ◌<◌, ℕ}
use Rattle.class_partition.specs.Classes.{least_of, phase_of}
use Rattle.refine_board.proofs.same.same_classes.Given as goal

abbrev pub invariant-loop-p : goal.invariant-loop-p
invariant-loop-p l = record {
  least : (q : ℕ) → q < l.p → least_of l.a q ≡ least_of l.b q;
  phase : (q : ℕ) → q < l.p → phase_of l.a q ≡ phase_of l.b q;
}
