use Rattle.std.proofs.Common.{arith, ◌+◌, ◌∙◌, refl}
use Rattle.sat_core.proofs.Refuting.{state_down, resolved_more, resolved_down}
use Rattle.sat_core.proofs.Walking.{past_decision}
use Rattle.sat_core.proofs.analysis.Analysis.resolve_level.Goals as goal

pub down-init : goal.down-init
down-init c =
    let a = c.args.self.now in let n = c.next-i.ensures in let i = c.next-i.result in
    record {
      state = state_down c.args.db.now c.args.trail.now.lits.items a (i + 1) c.args.from (omega (arith, n.below)) n.counted c.requires.state;
      resolved = resolved_down a.marks.seen.items i c.args.from c.requires.resolved n.none;
      seen = n.seen;
      start = refl;
      low = n.start;
      some = c.requires.some;
      limit = n.below;
    }

pub resolve-requires-clause-implied : goal.resolve-requires-clause-implied
resolve-requires-clause-implied c =
    let v = c.down.invariant in
    let p = past_decision c.args.db.now c.args.trail.now.lits.items c.down.i c.down.self v.low v.seen c.down-test.true v.state in
    c.requires.implied c.down.i (omega (arith, v.start)) v.limit

pub down-preserved : goal.down-preserved
down-preserved c =
    let v = c.down.invariant in let r = c.in_ok-resolve.ensures in let n = c.next-i-in-down.ensures in let i = c.next-i-in-down.result in
    let a = c.resolve.new.self in
    record {
      state = state_down c.args.db.now c.args.trail.now.lits.items a (i + 1) c.down.i (omega (arith, n.below)) n.counted r.state;
      resolved = resolved_down a.marks.seen.items i c.down.i (resolved_more c.down.self.marks.seen.items a.marks.seen.items c.down.i v.resolved r.past r.here) n.none;
      seen = n.seen;
      start = r.start ∙ v.start;
      low = n.start;
      some = omega (arith, r.grows, c.down-test.true);
      limit = omega (arith, n.below, v.limit);
    }
