use Rattle.std.proofs.Common.{arith}
use Rattle.pair_pool.proofs.Slotted.{slots_more, slots_same}
use Rattle.pair_pool.proofs.slots.slots_of.Goals as goal

pub loop-one-preserved-then-at-len : goal.loop-one-preserved-then-at-len
loop-one-preserved-then-at-len c = slots_more c.args.products.now c.loop-one.slots.items c.args.claimed.items c.loop-one.claimed.items c.pop.new.self.items c.in-Some.one c.in-Some.ensures.items (omega arith) c.loop-one.invariant

pub loop-one-preserved-then-at-len-2 : goal.loop-one-preserved-then-at-len-2
loop-one-preserved-then-at-len-2 c = slots_more c.args.products.now c.loop-one.slots.items c.args.claimed.items c.loop-one.claimed.items c.pop.new.self.items c.in-Some.one c.in-Some.ensures.items (omega arith) c.loop-one.invariant

pub loop-one-preserved-then-at-len-3 : goal.loop-one-preserved-then-at-len-3
loop-one-preserved-then-at-len-3 c = slots_more c.args.products.now c.loop-one.slots.items c.args.claimed.items c.loop-one.claimed.items c.pop.new.self.items c.in-Some.one c.in-Some.ensures.items (omega arith) c.loop-one.invariant

pub loop-one-preserved : goal.loop-one-preserved
loop-one-preserved c = slots_same c.args.products.now c.loop-one.slots.items c.args.claimed.items c.loop-one.claimed.items c.pop.new.self.items c.in-Some.one c.in-Some.ensures.items c.loop-one.invariant
