use Rattle.std.proofs.Common.{subst}
use Rattle.circ_model.specs.Meaning.{places_of}
use Rattle.refine_board.specs.declared.journal.Step.{Step}
use Rattle.refine_board.specs.Answers.{kept_step}
use Rattle.work_desk.specs.Desks.{Held, IsKeptAt}
use Rattle.work_desk.proofs.Steps.{run_answered, kept_stays, kept_lawful, kept_is}
use Rattle.work_desk.proofs.desk.Desk.keep.Goals as goal

pub invariant_of-self : goal.invariant_of-self
invariant_of-self g c =
    let i = c.self.inside in
    let event : Step = kept_step c.keep_at.result c.args.claimed.pair c.args.verdict.used in
    let is = kept_is c.keep_at.result c.args.claimed.pair c.args.verdict.used in
    run_answered g.L.Run.pair g.L.Run.k g.L.Run.workers i.board c.keep_at.new.self c.args.claimed event i.ledgers c.answer.new.self g.E.Ledger.parts g.O.Ledger.parts c.self.invariant c.keep_at.ensures.step
    c.requires.party (λ of. kept_stays (places_of g.L.Run.pair) i.board c.keep_at.new.self c.args.claimed c.keep_at.result c.args.claimed.pair c.args.verdict.used c.keep_at.ensures.step)
    (kept_lawful c.keep_at.result c.args.claimed.pair c.args.verdict.used) is.0 is.1 is.2 c.answer.ensures.ends.1 c.answer.ensures.ends.0 c.answer.ensures.answered

pub returns-clause-kept : goal.returns-clause-kept
returns-clause-kept g c = subst (λ (h : Held). IsKeptAt (places_of g.L.Run.pair) h.board c.keep_at.new.self c.args.claimed c.args.verdict.used) c.self.view_is (c.keep_at.result, c.keep_at.ensures.step)
