use Rattle.std.proofs.Common.{rules, ◌≡◌, subst}
use Rattle.claim_word.specs.Seats.{AreApart}
use Rattle.board_tests.proofs.claims.claim_both.Goals as goal

pub returns-clause-apart : goal.returns-clause-apart
returns-clause-apart g c = let same : c.join_seat.new.seat.claims ≡ c.extend_from_slice.new.self.items = search rules in subst AreApart same c.join_seat.ensures.apart
