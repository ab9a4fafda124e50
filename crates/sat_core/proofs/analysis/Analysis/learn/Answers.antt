use Rattle.std.proofs.Common.{arith, length, ◌∙◌, ◌++◌, ◌∷◌, [], ℕ, List, get_or, ap, sym, subst}
use Rattle.std.proofs.lemmas.List.{get_or_default}
use Rattle.cnf_store.specs.Codes.{neg}
use Rattle.sat_core.specs.Analysis.{IsMarked, StandsFrom, IsLearned}
use Rattle.sat_core.proofs.Refuting.{some_counted, learned_is}
use Rattle.sat_core.proofs.analysis.Analysis.learn.Goals as goal

pub resolve_level-requires-clause-some : goal.resolve_level-requires-clause-some
resolve_level-requires-clause-some c =
    let t = c.args.trail.now in
    let e = c.in_ok-begin.ensures in
    let m = c.begin.new.self.marks in
    let top = c.requires.top in
    let marked : IsMarked t.lits.items m.seen.items c.args.from top.1 = subst (IsMarked t.lits.items m.seen.items c.args.from) top.3 (e.marked top.0 top.1 top.2) in
    let stands : StandsFrom t.lits.items m.start c.args.from (neg top.1) = subst (λ (n : ℕ). StandsFrom t.lits.items n c.args.from (neg top.1)) (sym e.start) top.4 in
    some_counted (length t.at.items) t.lits.items t.at.items m.seen.items m.start c.args.from m.above top.1 t.placed c.requires.conflict.within e.state.counted.above marked stands

pub returns : goal.returns
returns c =
    let db : List (List ℕ) = c.args.db.now in
    let lits : List ℕ = c.args.trail.now.lits.items in
    let first : ℕ = c.in_ok-first.first in
    let u = c.in_ok-first.ensures in
    let level : ℕ = c.resolve_level.new.self.marks.start in
    let a = c.minimise.new.self in
    let h = learned_is db lits a level c.args.from first u.unique.start u.below c.in_ok-minimise.ensures in
    let start = u.start ∙ c.in_ok-begin.ensures.start in
    let lit = c.index.ensures ∙ get_or_default lits first c.index.result.now 0 (omega (arith, u.unique.state.within)) in
    let learned = c.in_ok-push.ensures.items ∙ ap (λ (x : ℕ). a.learned.items ++ x ∷ []) (c.complement.ensures ∙ ap neg lit) in
    subst (λ (n : ℕ). IsLearned db lits n c.args.from first c.push.new.self.items c.turn.new.hints.items) start
    (subst (λ (xs : List ℕ). IsLearned db lits level c.args.from first xs c.turn.new.hints.items) (sym learned)
    (subst (IsLearned db lits level c.args.from first (a.learned.items ++ neg (get_or lits first 0) ∷ [])) (sym c.turn.ensures) h))
