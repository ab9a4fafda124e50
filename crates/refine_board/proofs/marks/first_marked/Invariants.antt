use Rattle.std.proofs.Common.{length, ◌-◌, ◌≤◌, ◌<◌, ℕ}
use Rattle.refine_board.specs.Running.{IsMarkedAt, uncounted}
use Rattle.refine_board.proofs.marks.first_marked.Given as goal

abbrev pub invariant-loop-p : goal.invariant-loop-p
invariant-loop-p l = record {
  low : l.fn.from ≤ l.p;
  high : l.p ≤ length l.classes.least;
  before : (m : ℕ) → l.fn.from ≤ m → m < l.p → IsMarkedAt l.classes.least l.marks (uncounted l.out) m → ⊥;
}

abbrev pub decreases-loop-p : goal.decreases-loop-p
decreases-loop-p l = length l.classes.least - l.p
