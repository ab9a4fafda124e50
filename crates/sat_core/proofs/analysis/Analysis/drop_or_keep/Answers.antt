use Rattle.std.proofs.Common.{◌+◌}
use Rattle.std.proofs.lemmas.Result.{on_ok_weaker}
use Rattle.sat_core.specs.declared.analysis.Analysis.{Analysis}
use Rattle.sat_core.specs.Analysis.{IsLowered}
use Rattle.sat_core.proofs.Walking.{some_left, lowered_resolve, lowered_keep, lowered_other}
use Rattle.sat_core.proofs.analysis.Analysis.drop_or_keep.Goals as goal

pub keep-requires-clause-some : goal.keep-requires-clause-some
keep-requires-clause-some c = some_left c.args.db.now c.args.trail.now.lits.items c.args.start c.args.first c.args.i c.args.self.now c.requires.seen c.requires.lowered

pub keep-requires-2-clause-some : goal.keep-requires-2-clause-some
keep-requires-2-clause-some c = some_left c.args.db.now c.args.trail.now.lits.items c.args.start c.args.first c.args.i c.args.self.now c.requires.seen c.requires.lowered

pub returns-then-index-eq0 : goal.returns-then-index-eq0
returns-then-index-eq0 c = on_ok_weaker c.keep.result (lowered_keep c.args.db.now c.args.trail.now.lits.items c.args.start c.args.first c.args.i c.args.self.now c.keep.new.self c.requires.seen c.requires.lowered) c.keep.ensures

pub returns-then-follows : goal.returns-then-follows
returns-then-follows c =
    let a : Analysis = record c.args.self.now { minimiser = c.follows.new.self } in
    let l : IsLowered c.args.db.now c.args.trail.now.lits.items c.args.start c.args.first (c.args.i + 1) a = lowered_other c.args.db.now c.args.trail.now.lits.items c.args.start c.args.first (c.args.i + 1) c.args.self.now c.follows.new.self c.requires.lowered in
    on_ok_weaker c.resolve.result (lowered_resolve c.args.db.now c.args.trail.now.lits.items c.args.start c.args.first c.args.i a c.resolve.new.self l) c.resolve.ensures

pub returns : goal.returns
returns c =
    let a : Analysis = record c.args.self.now { minimiser = c.follows.new.self } in
    let l : IsLowered c.args.db.now c.args.trail.now.lits.items c.args.start c.args.first (c.args.i + 1) a = lowered_other c.args.db.now c.args.trail.now.lits.items c.args.start c.args.first (c.args.i + 1) c.args.self.now c.follows.new.self c.requires.lowered in
    on_ok_weaker c.keep-2.result (lowered_keep c.args.db.now c.args.trail.now.lits.items c.args.start c.args.first c.args.i a c.keep-2.new.self c.requires.seen l) c.keep-2.ensures
