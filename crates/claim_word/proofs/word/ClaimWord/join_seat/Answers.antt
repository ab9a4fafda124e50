use Rattle.std.proofs.Common.{sym, ap, ◌∙◌, subst, arith}
use Rattle.claim_word.specs.Seats.{SeatState, AreApart}
use Rattle.claim_word.specs.declared.view.View.{View}
use Rattle.claim_word.proofs.Moves.{joins, checks}
use Rattle.claim_word.proofs.Told.{told}
use Rattle.claim_word.proofs.word.ClaimWord.join_seat.Goals as goal

pub join_seat-requires : goal.join_seat-requires
join_seat-requires c = (
  ap (λ (s : SeatState). s.word) c.seat.view_is ∙ c.requires.own ∙ sym c.self.view_is,
  ap (λ (s : SeatState). s.word) c.other.view_is ∙ c.requires.other ∙ sym c.self.view_is,
  c.other.invariant,
  omega (arith, c.self.invariant),
  joins c.seat.inside.token.id c.seat.inside.token.me.0 c.other.inside.token.id c.other.inside.token.me.0,
)

pub load-requires : goal.load-requires
load-requires c = (
  c.join_seat.ensures.0 ∙ ap (λ (s : SeatState). s.word) c.seat.view_is ∙ c.requires.own ∙ sym c.self.view_is,
  omega (arith, c.self.invariant),
  checks c.self.inside.table.shared.table_id.slots c.join_seat.new.seat.id c.join_seat.new.seat.me,
)

pub returns-clause-apart : goal.returns-clause-apart
returns-clause-apart c = subst (λ (v : View). AreApart v.claims) (sym (ap (λ m. m.0) c.load.ensures.2.0)) (told c.seat.inside.token.table_id c.join_seat.new.seat.me.0 c.load.result c.load.ensures.2.1).apart
