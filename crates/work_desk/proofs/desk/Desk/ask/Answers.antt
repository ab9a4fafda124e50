use Rattle.std.proofs.Common.{◌≡◌, ◌∙◌, ◌<◌, ◌+◌, ◌^◌, ℕ, sym, ap, subst}
use Rattle.refine_board.specs.Answers.{IsLookAt}
use Rattle.work_desk.proofs.Steps.{run_same, run_ended}
use Rattle.work_desk.proofs.desk.Desk.ask.Goals as goal
use Rattle.work_desk.proofs.desk.Desk.ask.Goals.{in-Ok-Work, in-Ok-Wait, in-Ok-Done, in-Err}

pub invariant_of-self-2 : goal.invariant_of-self-2
invariant_of-self-2 g c =
    let i = c.self.inside in
    let pair = g.L.Run.pair in
    let k : ℕ = g.L.Run.k in
    let workers : ℕ = g.L.Run.workers in
    let E : ℕ = g.E.Ledger.parts in
    let O : ℕ = g.O.Ledger.parts in
    let party : ℕ = c.party.result in
    let own : party ≡ c.args.seat.now.party = c.party.ensures in
    let under : party < workers = subst (λ p. p < workers) (sym own) c.requires.party in
    elim c.match-look.branch [
      | in-Ok-Work w ↦
          let is = subst (λ t. IsLookAt pair k g.L.Run.list party c.args.request.is_holding i.board c.look.new.self t) w.in-Ok-Work.field-0-is w.in-Ok-Work.ensures.look in
          rw w.self-inside-is (run_same pair k workers i.board c.look.new.self i.ledgers E O c.self.invariant is.4.0 is.4.1)
      | in-Ok-Wait w ↦
          let is = subst (λ t. IsLookAt pair k g.L.Run.list party c.args.request.is_holding i.board c.look.new.self t) w.in-Ok-Wait.field-0-is w.in-Ok-Wait.ensures.look in
          rw w.self-inside-is (run_same pair k workers i.board c.look.new.self i.ledgers E O c.self.invariant is.4.0 is.4.1)
      | in-Ok-Done w ↦
          let is = subst (λ t. IsLookAt pair k g.L.Run.list party c.args.request.is_holding i.board c.look.new.self t) w.in-Ok-Done.field-0-is w.in-Ok-Done.ensures.look in
          rw w.self-inside-is (run_ended pair k workers i.board c.look.new.self party i.ledgers w.end.new.ledgers E O c.self.invariant is.1 under w.end.ensures.greatest (w.end.ensures.weights ∙ ap (λ q. i.ledgers.weights + 2 ^ q) (sym own)) w.end.ensures.ends w.end.ensures.answered)
      | in-Err w ↦
          rw w.self-inside-is (run_same pair k workers i.board c.look.new.self i.ledgers E O c.self.invariant w.in-Err.ensures.err.0 w.in-Err.ensures.err.1)
    ]
