use Rattle.std.proofs.Common.{arith, ◌≡◌, ◌≤◌, ◌<◌, ◌++◌, ◌∷◌, [], ℕ, Bool, List, length, get_or, reverse, sym, ◌∙◌, ap, subst, ◌⊎◌, inr, ⊎_elim, refl}
use Rattle.std.specs.List.{All}
use Rattle.cnf_store.specs.Codes.{clause_at, neg}
use Rattle.sat_core.specs.Analysis.{IsMarked, Ready, AreKnown}
use Rattle.sat_trail.specs.Trail.{StandsBelow}
use Rattle.sat_core.proofs.Marking.{counts_clean}
use Rattle.sat_trail.proofs.Placing.{stands_small}
use Rattle.sat_core.proofs.Refuting.{ready_first}
use Rattle.sat_core.proofs.analysis.Analysis.begin.Goals as goal

pub mark-requires-clause-wrong : goal.mark-requires-clause-wrong
mark-requires-clause-wrong c = subst (λ (xs : List ℕ). All (λ m. (m ≡ 4294967295) ⊎ StandsBelow c.args.trail.now.lits.items c.args.from (neg m)) xs) (sym c.get.ensures)
    (λ k d lt. inr (c.requires.conflict.wrong k d lt))

pub mark-requires-clause-counted : goal.mark-requires-clause-counted
mark-requires-clause-counted c =
    let e = c.in_ok-clear.ensures in let m = c.clear.new.self in
    counts_clean m.seen.items m.start c.args.from m.above m.below e.clean e.above e.below

pub returns-clause-marked : goal.returns-clause-marked
returns-clause-marked c =
    let t = c.args.trail.now in
    let all = subst (λ (xs : List ℕ). All (λ m. (m ≡ 4294967295) ⊎ IsMarked t.lits.items c.mark.new.self.seen.items c.args.from m) xs) c.get.ensures c.mark.ensures.marked in
    λ k d lt.
    let l : ℕ = get_or (clause_at c.args.db.now c.args.conflict) k d in
    ⊎_elim (λ (e : l ≡ 4294967295). absurd (let b = stands_small (length t.at.items) t.lits.items t.at.items c.args.from l t.placed c.requires.conflict.within (c.requires.conflict.wrong k d lt) in omega (arith, t.few)))
    (λ (m : IsMarked t.lits.items c.mark.new.self.seen.items c.args.from l). m) (all k d lt)

pub returns-clause-state : goal.returns-clause-state
returns-clause-state c =
    let db : List (List ℕ) = c.args.db.now in
    let lits : List ℕ = c.args.trail.now.lits.items in
    let seen : List Bool = c.mark.new.self.seen.items in
    let e = c.mark.ensures in
    let hints = c.in_ok-push.ensures.items ∙ ap (λ (xs : List ℕ). xs ++ c.args.conflict ∷ []) c.clear-2.ensures.items in
    record {
      size = e.adds.seen.size ∙ c.in_ok-clear.ensures.size ∙ c.len.ensures ∙ c.args.trail.now.lits.ok.0;
      within = c.requires.conflict.within;
      counted = e.counted;
      ready = subst (Ready db lits seen c.args.from) (sym (ap reverse hints)) (ready_first db lits seen c.args.from c.args.conflict (returns-clause-marked c));
      known = subst (AreKnown db) (sym hints) (λ k d lt. subst (λ (h : ℕ). (0 < h) × (h ≤ length db)) (sym (let z : k ≡ 0 = omega arith in rw z refl)) c.requires.conflict.known);
    }
