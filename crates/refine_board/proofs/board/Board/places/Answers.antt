use Rattle.std.proofs.Common.{subst}
use Rattle.circ_model.specs.Meaning.{places_of}
use Rattle.refine_board.specs.States.{AllCounted}
use Rattle.refine_board.specs.Running.{Running}
use Rattle.refine_board.specs.Schedules.{IsSupported}
use Rattle.refine_board.proofs.Supported.{done_is_greatest}
use Rattle.refine_board.proofs.board.Board.places.Goals as goal

pub returns-clause-greatest : goal.returns-clause-greatest
returns-clause-greatest g c = λ (all : AllCounted (places_of g.L.Run.pair) c.args.self.now.state).
    let supported : IsSupported g.L.Run.pair g.L.Run.k c.args.self.now.state = subst (λ (r : Running). IsSupported g.L.Run.pair g.L.Run.k r.state) c.self.view_is c.self.invariant.0.supported in
    done_is_greatest g.L.Run.pair g.L.Run.k c.args.self.now.state supported all
