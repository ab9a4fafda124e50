use Rattle.std.proofs.Common.{sym, ap, ◌∙◌, arith}
use Rattle.claim_word.specs.Seats.{SeatState}
use Rattle.claim_word.proofs.Moves.{splits}
use Rattle.claim_word.proofs.word.ClaimWord.split_seat.Goals as goal

pub split_seat-requires : goal.split_seat-requires
split_seat-requires c = (ap (λ (s : SeatState). s.word) c.seat.view_is ∙ c.requires.own ∙ sym c.self.view_is, omega (arith, c.self.invariant), splits c.seat.inside.token.id c.seat.inside.token.me.0)
