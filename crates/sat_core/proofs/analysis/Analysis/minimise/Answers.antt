use Rattle.std.proofs.Common.{arith, refl}
use Rattle.sat_core.proofs.Walking.{lowered_first, lowered_down, minimised}
use Rattle.sat_core.proofs.analysis.Analysis.minimise.Goals as goal

pub down-init : goal.down-init
down-init c =
    let l = c.lower.ensures in
    lowered_first c.args.db.now c.args.trail.now.lits.items c.args.self.now _ c.args.first c.requires.unique l.counted l.seen l.start refl c.clear.ensures.items

pub drop_or_keep-requires-clause-lowered : goal.drop_or_keep-requires-clause-lowered
drop_or_keep-requires-clause-lowered c =
    let n = c.next-i.ensures in
    lowered_down c.args.db.now c.args.trail.now.lits.items c.args.self.now.marks.start c.args.first c.next-i.result c.down.i c.down.self n.below n.counted n.none c.down.invariant

pub returns : goal.returns
returns c = minimised c.args.db.now c.args.trail.now.lits.items c.args.self.now.marks.start c.args.first c.down.i c.down.self (omega arith) c.down.invariant
