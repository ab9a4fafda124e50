use Rattle.std.proofs.Common.{arith, ◌<◌, ◌++◌, ◌∷◌, [], ℕ, List, sym, ◌∙◌, subst, refl}
use Rattle.sat_trail.specs.Trail.{AreReasoned, IsPlaced}
use Rattle.sat_trail.specs.Rank.{rank}
use Rattle.sat_trail.proofs.Upkeep.{are_reasoned_push, has_room}
use Rattle.sat_trail.proofs.Ranks.{rank_push}
use Rattle.sat_core.proofs.solving.decide.Goals as goal

pub returns : goal.returns
returns c =
    let s = c.args.s.now in
    let k = c.requires.keeps in
    let e = c.decide.ensures in
    let lits : List ℕ = s.trail.lits.items in
    let reasons : List ℕ = s.trail.reasons.items in
    let new = are_reasoned_push s.db lits reasons c.literal.result 0 s.trail.same k.reasoned (λ pos. absurd (omega arith)) in
    let placed : IsPlaced s.vars lits s.trail.at.items = subst (λ (n : ℕ). IsPlaced n lits s.trail.at.items) k.size s.trail.placed in
    let room = has_room s.vars lits s.trail.at.items c.args.var placed (omega (arith, c.requires.var, k.size)) c.requires.free in record {
      keeps = record {
        learned = k.learned;
        clauses = k.clauses;
        logged = k.logged;
        follow = k.follow;
        within = k.within;
        size = e.size ∙ k.size;
        reasoned = subst (λ (xs : List ℕ). AreReasoned s.db xs c.decide.new.self.reasons.items) (sym e.lits) (subst (AreReasoned s.db (lits ++ c.literal.result ∷ [])) (sym e.reasons) new);
      };
      rank = subst (λ (xs : List ℕ). rank s.vars reasons < rank s.vars xs) (sym e.reasons) (rank_push s.vars reasons 0 (omega (arith, s.trail.same)));
      vars = refl;
      formula = refl;
    }
