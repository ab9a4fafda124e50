use Rattle.std.proofs.Common.{ℕ, sym, subst, refl}
use Rattle.cnf_store.specs.Codes.{AreWithin}
use Rattle.sat_core.specs.Solving.{Standing}
use Rattle.sat_core.proofs.Concluding.{all_stand, standing_front}
use Rattle.sat_core.proofs.solving.check_all.Goals as goal

pub on_conflict-requires-clause-wrong : goal.on_conflict-requires-clause-wrong
on_conflict-requires-clause-wrong c = c.in-Conflict.ensures.2

pub returns-in-Quiet : goal.returns-in-Quiet
returns-in-Quiet c =
    let s = c.args.s.now in let t = s.trail in
    let k = c.requires.keeps in
    let all : Standing t.lits.items s.db = all_stand t.lits.items t.at.items s.db (subst (λ (n : ℕ). AreWithin n s.db) (sym k.size) k.within) c.requires.full c.in-Quiet.ensures in
    (standing_front t.lits.items s.formula k.learned (subst (Standing t.lits.items) k.clauses all), k.size, refl, refl)
