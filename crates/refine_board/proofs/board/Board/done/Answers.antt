use Rattle.std.proofs.Common.{◌≡◌, true, not, subst}
use Rattle.refine_board.specs.Running.{Running}
use Rattle.refine_board.specs.Schedules.{IsSupported}
use Rattle.refine_board.proofs.Supported.{done_is_greatest}
use Rattle.refine_board.proofs.Judged.{not_true}
use Rattle.refine_board.proofs.board.Board.done.Goals as goal

pub returns-clause-greatest : goal.returns-clause-greatest
returns-clause-greatest g c = λ (e : not c.is_some_out.result ≡ true).
    let supported : IsSupported g.L.Run.pair g.L.Run.k c.args.self.now.state = subst (λ (r : Running). IsSupported g.L.Run.pair g.L.Run.k r.state) c.self.view_is c.self.invariant.0.supported in
    done_is_greatest g.L.Run.pair g.L.Run.k c.args.self.now.state supported (c.is_some_out.ensures.none (not_true c.is_some_out.result e) (c.is_some_open.ensures.none c.if-is_some_open.false))
