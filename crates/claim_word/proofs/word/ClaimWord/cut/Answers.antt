use Rattle.std.proofs.Common.{sym, ap, ◌∙◌, arith}
use Rattle.claim_word.specs.Seats.{SeatState}
use Rattle.claim_word.specs.Steps.{view_of}
use Rattle.claim_word.proofs.Moves.{cuts}
use Rattle.claim_word.proofs.word.ClaimWord.cut.Goals as goal

pub split_seat-requires : goal.split_seat-requires
split_seat-requires g c = (
  ap (λ (s : SeatState). s.word) c.seat.view_is ∙ c.requires.own ∙ sym c.self.view_is,
  omega (arith, c.self.invariant),
  cuts c.seat.inside.token.id c.seat.inside.token.me.0 g.H.Halves.left g.H.Halves.right (ap view_of (c.seat.view_is ∙ c.requires.both)) c.requires.beside,
)
