use Rattle.std.proofs.Common.{arith, ◌≡◌, ◌≤◌, ◌<◌, ◌+◌, ◌∷◌, [], ℕ, Bool, false, List, length, get_or, set, reverse, refl, sym, ◌∙◌, ap, subst, ◌⊎◌}
use Rattle.std.specs.List.{All}
use Rattle.std.proofs.lemmas.List.{reverse-append, length-set, get_or_default}
use Rattle.std.proofs.lemmas.List.Elements.{All-push}
use Rattle.std.proofs.Common.{get_or-set_same, get_or-set_other}
use Rattle.cnf_store.specs.Codes.{clause_at}
use Rattle.sat_trail.specs.Trail.{Reasoned}
use Rattle.sat_core.specs.Analysis.{IsMarked, Ready, AreKnown}
use Rattle.sat_core.proofs.Marking.{counts_step, counts_unset}
use Rattle.sat_core.proofs.Refuting.{ready_step, ready_more}
use Rattle.sat_core.proofs.analysis.Analysis.resolve.Goals as goal

pub overflow_sub-self : goal.overflow_sub-self
overflow_sub-self c = let m = c.args.self.now.marks in (counts_step m.seen.items m.start c.args.i m.above m.below c.requires.start c.requires.seen c.requires.state.counted).0

pub mark-requires-clause-counted : goal.mark-requires-clause-counted
mark-requires-clause-counted c = let m = c.args.self.now.marks in (counts_step m.seen.items m.start c.args.i m.above m.below c.requires.start c.requires.seen c.requires.state.counted).1

pub returns : goal.returns
returns c =
    let t = c.args.trail.now in
    let db : List (List ℕ) = c.args.db.now in
    let lits : List ℕ = t.lits.items in
    let i : ℕ = c.args.i in
    let old = c.args.self.now.marks in
    let new = c.mark.new.self in
    let seen : List Bool = new.seen.items in
    let hints : List ℕ = c.args.self.now.hints.items in
    let s = c.requires.state in
    let within : i < length lits = omega (arith, s.within) in
    let r : ℕ = c.index-reason.result.now in
    let r_is : r ≡ get_or t.reasons.items i 0 = c.index-reason.ensures ∙ get_or_default t.reasons.items i r 0 (omega (arith, t.same)) in
    let l_is : c.index.result.now ≡ get_or lits i 0 = c.index.ensures ∙ get_or_default lits i c.index.result.now 0 within in
    let why : Reasoned db lits i r = subst (Reasoned db lits i) (sym r_is) (c.requires.reasoned i within c.requires.implied) in
    let pos : 0 < r = subst (λ (n : ℕ). 0 < n) (sym r_is) c.requires.implied in
    let e = c.mark.ensures in
    let size : length seen ≡ length lits = e.adds.seen.size ∙ s.size in
    let all : All (λ m. (m ≡ get_or lits i 0) ⊎ IsMarked lits seen i m) (clause_at db r) = subst (λ (xs : List ℕ). All (λ m. (m ≡ get_or lits i 0) ⊎ IsMarked lits seen i m) xs) c.get.ensures
    (subst (λ (l : ℕ). All (λ m. (m ≡ l) ⊎ IsMarked lits seen i m) c.get.result.now) l_is e.marked) in
    let ready = ready_step (length t.at.items) db lits t.at.items seen i r (reverse hints) t.placed size within why all
    (ready_more db lits old.seen.items seen i (i + 1) (reverse hints) (omega arith) e.adds.seen s.ready) in
    let items = c.in_ok-push.ensures.items in
    record {
      state = record {
        size = length-set seen i false ∙ size;
        within = omega arith;
        counted = counts_unset seen new.start i new.above new.below (omega (arith, e.adds.start, c.requires.start)) e.counted;
        ready = subst (Ready db lits (set seen i false) i) (sym (ap reverse items ∙ reverse-append hints (r ∷ []))) ready;
        known = subst (AreKnown db) (sym items) (All-push (λ (h : ℕ). (0 < h) × (h ≤ length db)) hints r s.known (pos, why.known));
      };
      start = e.adds.start;
      grows = omega (arith, e.adds.grows);
      here = get_or-set_same seen i false false (omega arith);
      past = λ q lt. get_or-set_other seen i q false false (λ z. omega arith) ∙ e.adds.seen.past q (omega arith);
      learned = refl;
    }
