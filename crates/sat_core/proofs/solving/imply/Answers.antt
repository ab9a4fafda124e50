use Rattle.std.proofs.Common.{arith, ◌<◌, ◌-◌, ◌*◌, ◌/◌, ◌++◌, ◌∷◌, [], ℕ, List, sym, ◌∙◌, subst, refl}
use Rattle.std.proofs.lemmas.List.Elements.{All-contains}
use Rattle.sat_trail.specs.Trail.{AreReasoned, IsPlaced}
use Rattle.cnf_store.specs.Codes.{clause_at}
use Rattle.sat_trail.specs.Rank.{rank}
use Rattle.sat_trail.proofs.Upkeep.{are_reasoned_push, reasoned_new, has_room}
use Rattle.sat_trail.proofs.Ranks.{rank_push}
use Rattle.sat_core.proofs.solving.imply.Goals as goal

pub returns-clause-advances : goal.returns-clause-advances
returns-clause-advances c =
    let s = c.args.s.now in
    let k = c.requires.keeps in
    let u = c.requires.unit in
    let e = c.imply.ensures in
    let lits : List ℕ = s.trail.lits.items in
    let reasons : List ℕ = s.trail.reasons.items in
    let new = are_reasoned_push s.db lits reasons c.args.lit c.args.clause s.trail.same k.reasoned (λ pos. reasoned_new s.db lits c.args.lit c.args.clause c.requires.clause.1 u.inside u.others) in
    let small : c.args.lit < 2 * s.vars = All-contains (λ (l : ℕ). l < 2 * s.vars) (clause_at s.db c.args.clause) c.args.lit (k.within (c.args.clause - 1) [] (omega (arith, c.requires.clause.0, c.requires.clause.1))) u.inside in
    let placed : IsPlaced s.vars lits s.trail.at.items = subst (λ (n : ℕ). IsPlaced n lits s.trail.at.items) k.size s.trail.placed in
    let room = has_room s.vars lits s.trail.at.items (c.args.lit / 2) placed (omega arith) u.free in record {
      keeps = record {
        learned = k.learned;
        clauses = k.clauses;
        logged = k.logged;
        follow = k.follow;
        within = k.within;
        size = e.size ∙ k.size;
        reasoned = subst (λ (xs : List ℕ). AreReasoned s.db xs c.imply.new.self.reasons.items) (sym e.lits) (subst (AreReasoned s.db (lits ++ c.args.lit ∷ [])) (sym e.reasons) new);
      };
      rank = subst (λ (xs : List ℕ). rank s.vars reasons < rank s.vars xs) (sym e.reasons) (rank_push s.vars reasons c.args.clause (omega (arith, s.trail.same)));
      vars = refl;
      formula = refl;
    }
