use Rattle.std.proofs.Common.{sym, ap, ◌∙◌, subst, arith}
use Rattle.claim_word.specs.Seats.{SeatState, IsSound}
use Rattle.claim_word.proofs.Moves.{looks}
use Rattle.claim_word.proofs.Told.{told}
use Rattle.claim_word.proofs.word.ClaimWord.seen.Goals as goal

pub load-requires : goal.load-requires
load-requires c = (ap (λ (s : SeatState). s.word) c.seat.view_is ∙ c.requires.own ∙ sym c.self.view_is, omega (arith, c.self.invariant), looks c.self.inside.table.shared.table_id.slots c.seat.inside.token.id c.seat.inside.token.me)

pub returns-clause-sound : goal.returns-clause-sound
returns-clause-sound c = subst (λ (s : SeatState). IsSound s c.load.result) c.seat.view_is (told c.seat.inside.token.table_id c.seat.inside.token.me.0 c.load.result c.load.ensures.2.1)
