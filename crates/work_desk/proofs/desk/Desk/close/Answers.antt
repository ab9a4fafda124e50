use Rattle.std.proofs.Common.{◌≡◌, ◌≤◌, ◌+◌, ◌^◌, refl, subst}
use Rattle.work_desk.proofs.Steps.{outcome}
use Rattle.work_desk.proofs.desk.Desk.close.Goals as goal

pub returns-clause-outcome : goal.returns-clause-outcome
returns-clause-outcome g c =
    let i = c.self.inside in
    let back = c.if-not-all_back.ensures in
    outcome g.L.Run.pair g.L.Run.k g.L.Run.workers g.L.Run.opening i.board i.ledgers g.E.Ledger.parts g.O.Ledger.parts c.close.result.0 c.close.result.1.entries c.self.invariant
    (subst (λ n. i.ledgers.weights + 1 ≡ 2 ^ n) c.requires.all (back.weights refl)) (subst (λ n. i.ledgers.ends ≤ n) c.requires.all (back.few refl))
    c.close.ensures.version c.close.ensures.entries c.close.ensures.legal
