use Rattle.std.proofs.Common.{arith, ◌≡◌, ℕ, List, subst, ◌⊎◌}
use Rattle.std.specs.List.{All}
use Rattle.std.proofs.lemmas.List.{take_all}
use Rattle.sat_core.specs.Analysis.{IsMarked}
use Rattle.sat_core.proofs.Marking.{all_marked_more, adds_then}
use Rattle.sat_core.proofs.marks.Marks.mark.Goals as goal

pub loop-lit-preserved : goal.loop-lit-preserved
loop-lit-preserved c =
    let v = c.loop-lit.invariant in let e = c.mark_other.ensures in
    let lits : List ℕ = c.args.trail.now.lits.items in
    record {
      counted = e.counted;
      marked = all_marked_more c.args.clause.now c.args.skip lits c.loop-lit.self.seen.items c.mark_other.new.self.seen.items c.args.limit c.loop-lit.lit-index (omega arith) v.marked e.adds.seen.more e.marked;
      adds = adds_then c.args.limit c.args.self.now c.loop-lit.self c.mark_other.new.self v.adds e.adds;
    }

pub returns-clause-marked : goal.returns-clause-marked
returns-clause-marked c =
    subst (λ (xs : List ℕ). All (λ m. (m ≡ c.args.skip) ⊎ IsMarked c.args.trail.now.lits.items c.loop-lit.self.seen.items c.args.limit m) xs) (take_all c.loop-lit.lit-index c.args.clause.now (omega arith)) c.loop-lit.invariant.marked
