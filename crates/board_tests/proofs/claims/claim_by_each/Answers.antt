use Rattle.std.proofs.Common.{ℕ, sym, subst}
use Rattle.std.specs.List.{Contains}
use Rattle.std.proofs.lemmas.List.Elements.{Contains-push}
use Rattle.claim_word.specs.Seats.{SeatState}
use Rattle.board_tests.proofs.claims.claim_by_each.Goals as goal

pub returns-clause-differ : goal.returns-clause-differ
returns-clause-differ c =
    let mine : ℕ × ℕ = (c.in-Mine.version, c.in-Mine.index) in
    let other : ℕ × ℕ = (c.in-Mine-claim.other_version, c.in-Mine-claim.other_index) in
    let here : Contains c.claim.new.seat.claims mine = subst (λ (s : SeatState). Contains s.claims mine) (sym c.in-Mine.ensures.answer.3) (Contains-push c.args.first.now.claims mine) in
    let there : Contains c.claim-2.new.seat.claims other = subst (λ (s : SeatState). Contains s.claims other) (sym c.in-Mine-claim.ensures.answer.3) (Contains-push c.args.second.now.claims other) in
    λ e. c.differ.ensures.differ mine here (subst (Contains c.claim-2.new.seat.claims) (sym e) there)
