use Rattle.std.proofs.Common.{arith, ◌-◌, true, false, refl, get_or-set_same}
use Rattle.sat_core.proofs.Marking.{counts_low, counts_open, low_room, high_room, false_place, read_false, read_true, more_none, more_set}
use Rattle.sat_core.proofs.marks.Marks.mark_one.Goals as goal

pub returns-then-index-clause-counted : goal.returns-then-index-clause-counted
returns-then-index-clause-counted c = c.requires.counted

pub returns-then-index-clause-marked : goal.returns-then-index-clause-marked
returns-then-index-clause-marked c =
    let t = c.args.trail.now in let m = c.args.self.now in
    let h = false_place t.at.items t.lits.items c.args.limit c.args.lit c.index.result.now t.placed c.requires.limit c.requires.wrong c.index.ensures in
    (c.index.result.now - 1, h.1, h.3, read_true m.seen.items (c.index.result.now - 1) c.index-2.result.now c.index-2.ensures c.if-index.true (omega (arith, h.1, c.requires.limit, c.requires.size)))

pub returns-then-index-clause-adds : goal.returns-then-index-clause-adds
returns-then-index-clause-adds c = record { seen = more_none c.args.limit c.args.self.now.seen.items; start = refl; grows = omega arith }

pub returns-then-place-self-clause-counted : goal.returns-then-place-self-clause-counted
returns-then-place-self-clause-counted c =
    let t = c.args.trail.now in let m = c.args.self.now in
    let h = false_place t.at.items t.lits.items c.args.limit c.args.lit c.index.result.now t.placed c.requires.limit c.requires.wrong c.index.ensures in
    let z = read_false m.seen.items (c.index.result.now - 1) c.index-2.result.now c.index-2.ensures c.if-index.false in
    counts_low m.seen.items m.start c.args.limit m.above m.below (c.index.result.now - 1) c.requires.counted c.if-place-self.true (omega (arith, h.1, c.requires.limit, c.requires.size)) z

pub returns-then-place-self-clause-marked : goal.returns-then-place-self-clause-marked
returns-then-place-self-clause-marked c =
    let t = c.args.trail.now in let m = c.args.self.now in
    let h = false_place t.at.items t.lits.items c.args.limit c.args.lit c.index.result.now t.placed c.requires.limit c.requires.wrong c.index.ensures in
    (c.index.result.now - 1, h.1, h.3, get_or-set_same m.seen.items (c.index.result.now - 1) true false (omega (arith, h.1, c.requires.limit, c.requires.size)))

pub returns-then-place-self-clause-adds : goal.returns-then-place-self-clause-adds
returns-then-place-self-clause-adds c =
    let t = c.args.trail.now in let m = c.args.self.now in
    let h = false_place t.at.items t.lits.items c.args.limit c.args.lit c.index.result.now t.placed c.requires.limit c.requires.wrong c.index.ensures in
    record { seen = more_set m.seen.items (c.index.result.now - 1) c.args.limit h.1 (omega (arith, h.1, c.requires.limit, c.requires.size)); start = refl; grows = omega arith }

pub returns-clause-counted : goal.returns-clause-counted
returns-clause-counted c =
    let t = c.args.trail.now in let m = c.args.self.now in
    let h = false_place t.at.items t.lits.items c.args.limit c.args.lit c.index.result.now t.placed c.requires.limit c.requires.wrong c.index.ensures in
    let z = read_false m.seen.items (c.index.result.now - 1) c.index-2.result.now c.index-2.ensures c.if-index.false in
    counts_open m.seen.items m.start c.args.limit m.above m.below (c.index.result.now - 1) c.requires.counted (omega arith) h.1 (omega (arith, h.1, c.requires.limit, c.requires.size)) z

pub returns-clause-marked : goal.returns-clause-marked
returns-clause-marked c =
    let t = c.args.trail.now in let m = c.args.self.now in
    let h = false_place t.at.items t.lits.items c.args.limit c.args.lit c.index.result.now t.placed c.requires.limit c.requires.wrong c.index.ensures in
    (c.index.result.now - 1, h.1, h.3, get_or-set_same m.seen.items (c.index.result.now - 1) true false (omega (arith, h.1, c.requires.limit, c.requires.size)))

pub returns-clause-adds : goal.returns-clause-adds
returns-clause-adds c =
    let t = c.args.trail.now in let m = c.args.self.now in
    let h = false_place t.at.items t.lits.items c.args.limit c.args.lit c.index.result.now t.placed c.requires.limit c.requires.wrong c.index.ensures in
    record { seen = more_set m.seen.items (c.index.result.now - 1) c.args.limit h.1 (omega (arith, h.1, c.requires.limit, c.requires.size)); start = refl; grows = omega arith }

pub overflow_add-self : goal.overflow_add-self
overflow_add-self c =
    let t = c.args.trail.now in let m = c.args.self.now in
    let h = false_place t.at.items t.lits.items c.args.limit c.args.lit c.index.result.now t.placed c.requires.limit c.requires.wrong c.index.ensures in
    let z = read_false m.seen.items (c.index.result.now - 1) c.index-2.result.now c.index-2.ensures c.if-index.false in
    let room = low_room m.seen.items m.start c.args.limit m.above m.below (c.index.result.now - 1) c.requires.counted c.if-place-self.true (omega (arith, h.1, c.requires.limit, c.requires.size)) z in
    omega arith

pub overflow_add-self-2 : goal.overflow_add-self-2
overflow_add-self-2 c =
    let t = c.args.trail.now in let m = c.args.self.now in
    let h = false_place t.at.items t.lits.items c.args.limit c.args.lit c.index.result.now t.placed c.requires.limit c.requires.wrong c.index.ensures in
    let z = read_false m.seen.items (c.index.result.now - 1) c.index-2.result.now c.index-2.ensures c.if-index.false in
    let room = high_room m.seen.items m.start c.args.limit m.above m.below (c.index.result.now - 1) c.requires.counted (omega arith) h.1 (omega (arith, h.1, c.requires.limit, c.requires.size)) z in
    omega arith
