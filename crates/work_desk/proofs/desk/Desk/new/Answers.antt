use Rattle.work_desk.proofs.Steps.{run_opened}
use Rattle.work_desk.proofs.desk.Desk.new.Goals as goal

pub invariant_of-result : goal.invariant_of-result
invariant_of-result g c = run_opened g.L.Run.pair g.L.Run.k g.L.Run.workers c.args.board c.args.ledgers g.E.Ledger.parts g.O.Ledger.parts c.requires.empty c.requires.totals c.requires.workers.0 c.requires.workers.1 c.requires.ends c.requires.seats
