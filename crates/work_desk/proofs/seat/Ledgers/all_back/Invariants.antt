use Rattle.std.proofs.Common.{◌≡◌, ◌<◌, ◌+◌, ◌^◌, ℕ, length}
use Rattle.std.specs.Prelude.{None, slice_index_or}
use Rattle.work_desk.specs.Seats.{HaveEnded}
use Rattle.work_desk.proofs.seat.Ledgers.all_back.Given as goal

-- the shares of the seats that were taken off the end
abbrev pub invariant-loop-back : goal.invariant-loop-back
invariant-loop-back g l = (l.weights.parts + length l.told.items ≡ length l.fn.told.items) × (l.weights.amount + 2 ^ length l.told.items ≡ 2 ^ length l.fn.told.items)
    × (l.parts.parts + length l.told.items ≡ length l.fn.told.items) × HaveEnded l.told.items
    × ((i : ℕ) → i < length l.told.items → slice_index_or l.told.items i None ≡ slice_index_or l.fn.told.items i None)
    × (l.ends.total ≡ l.fn.self.weights) × (l.ended.parts ≡ l.fn.self.ends)

abbrev pub decreases-loop-back : goal.decreases-loop-back
decreases-loop-back g l = length l.told.items
