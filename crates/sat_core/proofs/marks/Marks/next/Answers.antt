use Rattle.std.proofs.Common.{arith, ◌-◌, true, false}
use Rattle.sat_core.proofs.Marking.{past_start, counts_skip, counts_back, back_one, none_down, same_mark}
use Rattle.sat_core.proofs.marks.Marks.next.Goals as goal

pub overflow_sub-i : goal.overflow_sub-i
overflow_sub-i c = let m = c.args.self.now in let p = past_start m.seen.items m.start c.down.i m.above c.down.invariant.counted.above c.requires.some in omega arith

pub bounds-seen-i : goal.bounds-seen-i
bounds-seen-i c = let m = c.args.self.now in let p = past_start m.seen.items m.start c.down.i m.above c.down.invariant.counted.above c.requires.some in omega (arith, c.down.invariant.low, c.requires.within)

pub returns-then-seen-i : goal.returns-then-seen-i
returns-then-seen-i c =
    let m = c.args.self.now in let v = c.down.invariant in
    let p = past_start m.seen.items m.start c.down.i m.above v.counted.above c.requires.some in
    record {
      below = omega (arith, v.low);
      start = omega arith;
      seen = same_mark c.as_slice-seen.result.now m.seen.items (c.down.i - 1) true c.as_slice-seen.ensures.value c.if-seen-i.true;
      counted = counts_back m.seen.items m.start c.down.i m.above m.below (omega arith) v.counted;
      none = λ q lt. v.none q (omega arith);
    }

pub down-smaller : goal.down-smaller
down-smaller c = let m = c.args.self.now in let p = past_start m.seen.items m.start c.down.i m.above c.down.invariant.counted.above c.requires.some in omega arith

pub down-preserved : goal.down-preserved
down-preserved c =
    let m = c.args.self.now in let v = c.down.invariant in
    let p = past_start m.seen.items m.start c.down.i m.above v.counted.above c.requires.some in
    let un = same_mark c.as_slice-seen.result.now m.seen.items (c.down.i - 1) false c.as_slice-seen.ensures.value c.if-seen-i.false in
    record {
      low = omega (arith, v.low);
      counted = counts_skip m.seen.items m.start (c.down.i - 1) m.above m.below un (counts_back m.seen.items m.start c.down.i m.above m.below (omega arith) v.counted);
      none = none_down m.seen.items (c.down.i - 1) c.down.i c.args.from (back_one c.down.i (omega arith)) un v.none;
    }
