use Rattle.std.proofs.Common.{rules, ◌≡◌, ◌++◌, subst}
use Rattle.claim_word.specs.Seats.{AreApart}
use Rattle.claim_word.proofs.word.ClaimWord.differ_as.Goals as goal

pub returns-clause-apart : goal.returns-clause-apart
returns-clause-apart g c = let same : c.join_seat.new.seat.claims ≡ c.args.first.now.claims ++ c.args.second.now.claims = search rules in subst AreApart same c.join_seat.ensures.apart
