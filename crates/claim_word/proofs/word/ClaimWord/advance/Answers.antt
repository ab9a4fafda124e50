use Rattle.std.proofs.Common.{◌<◌, ◌+◌, ◌*◌, ℕ, sym, ap, ◌∙◌, subst, arith}
use Rattle.claim_word.specs.Words.{version_of}
use Rattle.claim_word.specs.Seats.{SeatState}
use Rattle.claim_word.proofs.Moves.{advances}
use Rattle.claim_word.proofs.word.ClaimWord.advance.Goals as goal

pub swap-requires : goal.swap-requires
swap-requires c =
    let word : ℕ = c.from.result * 4398046511104 + c.from-2.result * 2097152 in (
      ap (λ (s : SeatState). s.word) c.seat.view_is ∙ c.requires.own ∙ sym c.self.view_is,
      omega (arith, c.self.invariant),
      advances c.self.inside.table.shared.table_id.slots c.seat.inside.token.id word c.seat.inside.token.me
          (ap (λ (s : SeatState). s.board) c.seat.view_is ∙ c.requires.board)
          (omega (arith, c.from.ensures, c.from-2.ensures, c.requires.few, subst (λ (n : ℕ). version_of n < c.args.version) (sym (ap (λ (s : SeatState). s.written) c.seat.view_is)) c.requires.later))
          (omega (arith, c.from-2.ensures)),
    )
