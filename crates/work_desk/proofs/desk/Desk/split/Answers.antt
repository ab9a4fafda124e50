use Rattle.std.proofs.Common.{subst}
use Rattle.circ_model.specs.Meaning.{places_of}
use Rattle.refine_board.specs.declared.journal.Step.{Step}
use Rattle.refine_board.specs.Answers.{cut_step}
use Rattle.work_desk.specs.Desks.{Held, IsCutAt}
use Rattle.work_desk.proofs.Steps.{run_answered, cut_lawful, cut_is}
use Rattle.work_desk.proofs.desk.Desk.split.Goals as goal

pub invariant_of-self : goal.invariant_of-self
invariant_of-self g c =
    let i = c.self.inside in
    let event : Step = cut_step c.split_own_at.result c.args.vector.bits in
    let is = cut_is c.split_own_at.result c.args.vector.bits in
    run_answered g.L.Run.pair g.L.Run.k g.L.Run.workers i.board c.split_own_at.new.self c.args.claimed event i.ledgers c.answer.new.self g.E.Ledger.parts g.O.Ledger.parts c.self.invariant c.split_own_at.ensures.step
    c.requires.party c.split_own_at.ensures.stays (cut_lawful c.split_own_at.result c.args.vector.bits c.split_own_at.ensures.own) is.0 is.1 is.2 c.answer.ensures.ends.1 c.answer.ensures.ends.0 c.answer.ensures.answered

pub returns-clause-cut : goal.returns-clause-cut
returns-clause-cut g c = subst (λ (h : Held). IsCutAt (places_of g.L.Run.pair) h.board c.split_own_at.new.self c.args.claimed c.args.vector.bits) c.self.view_is (c.split_own_at.result, c.split_own_at.ensures.step)
