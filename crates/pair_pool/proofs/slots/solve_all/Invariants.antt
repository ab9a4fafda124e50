use Rattle.std.proofs.Common.{◌≡◌, length}
use Rattle.pair_pool.specs.Solutions.{AreInOrder, AreSlots}
use Rattle.pair_pool.proofs.slots.solve_all.Given as goal

abbrev pub invariant-loop-index : goal.invariant-loop-index
invariant-loop-index g l = (length l.solved.items ≡ l.index) × AreInOrder l.products l.k l.solved.items × AreSlots l.products l.k l.slots.items
