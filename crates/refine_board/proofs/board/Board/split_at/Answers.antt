use Rattle.std.proofs.Common.{ℕ, subst}
use Rattle.circ_model.specs.Meaning.{places_of}
use Rattle.refine_board.specs.Running.{Appends}
use Rattle.refine_board.specs.Answers.{cut_step}
use Rattle.refine_board.proofs.board.Board.split_at.Goals as goal

pub returns-then-own-clause-step : goal.returns-then-own-clause-step
returns-then-own-clause-step g c = (c.begin-party.new.self, c.begin-party.ensures.offers, subst (λ (q : ℕ). Appends (places_of g.L.Run.pair) c.begin-party.new.self c.cut.new.self q (cut_step c.cut.result c.args.vector.bits)) c.begin-party.ensures.party.0 c.cut.ensures.step)
