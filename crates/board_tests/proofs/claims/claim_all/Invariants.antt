use Rattle.std.proofs.Common.{◌≡◌, false}
use Rattle.board_tests.proofs.claims.claim_all.Given as goal

-- the seat's claims are those that were kept
abbrev pub invariant-loop : goal.invariant-loop
invariant-loop l = (l.seat.word ≡ l.fn.word) × (l.seat.board ≡ false) × (l.seat.claims ≡ l.mine.items)
