use Rattle.pair_pool.specs.Solutions.{AreEmpty}
use Rattle.pair_pool.proofs.slots.empty_slots.Given as goal

abbrev pub invariant-loop-at : goal.invariant-loop-at
invariant-loop-at l = AreEmpty l._at l.slots.items
