use Rattle.std.proofs.Common.{◌≡◌, ℕ, length}
use Rattle.pair_pool.specs.Claims.{AreFound}
use Rattle.pair_pool.specs.Solutions.{AreSlots}
use Rattle.pair_pool.proofs.slots.slots_of.Given as goal

abbrev pub invariant-loop-one : goal.invariant-loop-one
invariant-loop-one l = (length l.slots.items ≡ length l.products) × ((k : ℕ) → AreFound l.products k l.fn.claimed.items → AreSlots l.products k l.slots.items × AreFound l.products k l.claimed.items)

abbrev pub decreases-loop-one : goal.decreases-loop-one
decreases-loop-one l = length l.claimed.items
