use Rattle.std.proofs.Common.{arith, ◌≡◌, ◌++◌, ◌∷◌, [], ℕ, List, sym, ◌∙◌, ap, subst}
use Rattle.sat_log.specs.Derivations.{IsAccepted}
use Rattle.sat_core.specs.Signed.{signed_line, coded}
use Rattle.sat_core.proofs.Concluding.{refuted}
use Rattle.sat_core.proofs.solving.refute.Goals as goal

pub learn_nothing-requires-clause-implied : goal.learn_nothing-requires-clause-implied
learn_nothing-requires-clause-implied c =
    let t = c.args.s.now.trail in
    λ p lt. t.levels.between 0 p (omega arith) (λ pos. absurd (omega arith)) (λ h. let r = c.requires.root h in omega arith) (omega (arith, t.same, c.requires.from))

pub returns : goal.returns
returns c =
    let s = c.args.s.now in
    let k = c.requires.keeps in
    let a = c.learn_nothing.new.self in
    let e = c.in_ok-learn_nothing.ensures in
    let line : c.add.new.self ≡ s.log ++ signed_line [] a.hints.items ∷ [] = c.in_ok-add.ensures.added ∙ ap (λ (hs : List ℕ). s.log ++ record { literals = []; hints = hs } ∷ []) c.deref.ensures.value in
    subst (IsAccepted (coded s.vars s.formula)) (sym line) (refuted s.vars s.formula k.learned s.db s.log a.hints.items k.clauses k.logged k.follow e.refutes e.known)
