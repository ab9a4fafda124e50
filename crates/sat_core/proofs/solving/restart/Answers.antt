use Rattle.std.proofs.Common.{arith, ◌∙◌, ℕ, List, take, get_or, sym, subst}
use Rattle.sat_trail.specs.Trail.{AreReasoned}
use Rattle.sat_trail.proofs.Upkeep.{are_reasoned_take}
use Rattle.sat_core.proofs.solving.restart.Goals as goal

pub returns-in_ok-release_from-clause-keeps : goal.returns-in_ok-release_from-clause-keeps
returns-in_ok-release_from-clause-keeps c =
    let s = c.args.s.now in
    let t = s.trail in
    let b = c.back_to.ensures in
    let k = c.requires in
    let cut : ℕ = get_or t.starts.items 0 0 in
    let e = t.levels.each 0 (omega (arith, c.if-len-gt0.true, c.len.ensures, t.starts.ok)) in
    let all = are_reasoned_take s.db t.lits.items t.reasons.items cut (omega (arith, e.0, t.same)) k.reasoned in
    record {
      learned = k.learned;
      clauses = k.clauses;
      logged = k.logged;
      follow = k.follow;
      within = k.within;
      size = b.size ∙ k.size;
      reasoned = subst (λ (xs : List ℕ). AreReasoned s.db xs c.back_to.new.self.reasons.items) (sym b.lits) (subst (AreReasoned s.db (take cut t.lits.items)) (sym b.reasons) all);
    }
