use Rattle.std.proofs.Common.{arith, ◌≡◌, [], ℕ, List, length, sym, ◌∙◌, ap, subst}
use Rattle.std.proofs.lemmas.List.{append-nil}
use Rattle.cnf_store.specs.Codes.{AreWithin}
use Rattle.sat_log.specs.Derivations.{AllFollow, clauses_of}
use Rattle.sat_core.specs.Signed.{signed_clauses}
use Rattle.sat_core.proofs.solving.begin.Goals as goal

pub returns-clause-keeps : goal.returns-clause-keeps
returns-clause-keeps c =
    let r = c.requires in
    let db = c.new.ensures ∙ r.same in
    let log = c.new-2.ensures in record {
      learned = [];
      clauses = db ∙ sym (append-nil c.args.formula);
      logged = ap clauses_of log;
      follow = subst (AllFollow c.args.vars (signed_clauses c.args.formula)) (sym log) tt;
      within = subst (AreWithin c.args.vars) (sym db) r.within;
      size = r.size;
      reasoned = λ i lt pos. absurd (let n : length c.args.memory.trail.lits.items ≡ 0 = ap (λ (xs : List ℕ). length xs) r.trail in omega arith);
    }
