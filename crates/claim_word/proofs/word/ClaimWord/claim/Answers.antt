use Rattle.std.proofs.Common.{sym, ap, ◌∙◌, arith}
use Rattle.claim_word.specs.Seats.{SeatState}
use Rattle.claim_word.proofs.Moves.{tries}
use Rattle.claim_word.proofs.word.ClaimWord.claim.Goals as goal

pub compare_exchange-found-requires : goal.compare_exchange-found-requires
compare_exchange-found-requires c = (
  ap (λ (s : SeatState). s.word) (c.seat.view_is ∙ c.seen-word.ensures.shown) ∙ c.requires.own ∙ sym c.self.view_is,
  omega (arith, c.self.invariant),
  tries c.self.inside.table.shared.table_id.slots c.seat.inside.token.id c.seen-word.result c.seat.inside.token.me (omega (arith, c.seen-word.ensures.sound.fine, c.is_spent.ensures.no c.if-is_spent.false)),
)
