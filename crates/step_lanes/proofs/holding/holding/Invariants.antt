use Rattle.std.proofs.Common.{◌≡◌, ◌<◌, ℕ}
use Rattle.std.specs.Prelude.{IsTrue}
use Rattle.class_partition.specs.Classes.{least_of, relative}
use Rattle.sim_words.specs.Lanes.{lane, lane_bit}
use Rattle.step_lanes.proofs.holding.holding.Given as goal

abbrev pub invariant-loop-p : goal.invariant-loop-p
invariant-loop-p l = record {
  kept : (b : ℕ) → b < 64 → IsTrue (lane_bit b l.lanes) → IsTrue (lane_bit b l.mask);
  hold : (b : ℕ) → b < 64 → IsTrue (lane_bit b l.lanes) → (q : ℕ) → q < l.p → relative l.classes (lane b l.words) (least_of l.classes q) ≡ relative l.classes (lane b l.words) q;
  all : (b : ℕ) → b < 64 → IsTrue (lane_bit b l.mask) → ((q : ℕ) → q < l.p → relative l.classes (lane b l.words) (least_of l.classes q) ≡ relative l.classes (lane b l.words) q) → IsTrue (lane_bit b l.lanes);
}
