use Rattle.std.proofs.Common.{◌≡◌, ◌≢◌, ◌<◌, ℕ, length, get_or}
use Rattle.sim_words.specs.Lanes.{lane_bit}
use Rattle.step_lanes.proofs.rows.copy_lane.Given as goal

abbrev pub invariant-loop-p : goal.invariant-loop-p
invariant-loop-p l =
    (length l.words.items ≡ length l.initial.words.items)
    × ((i : ℕ) → i < l.p → lane_bit l.to (get_or l.words.items i 0) ≡ lane_bit l.from (get_or l.others i 0))
    × ((b i : ℕ) → b < 64 → b ≢ l.to → lane_bit b (get_or l.words.items i 0) ≡ lane_bit b (get_or l.initial.words.items i 0))
