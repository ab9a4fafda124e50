use Rattle.std.proofs.Common.{◌≡◌, ◌∙◌, ◌++◌, ◌∷◌, [], ℕ, List, ap, append_assoc}
use Rattle.claim_word.specs.Seats.{SeatState}
use Rattle.work_desk.proofs.caller.Caller.claim.Goals as goal

pub returns-in-Mine-clause-some : goal.returns-in-Mine-clause-some
returns-in-Mine-clause-some g c =
    let i = c.loop-turn.self-inside in
    let inv = c.loop-turn.invariant in
    let mine : ℕ × ℕ = (c.in-Mine.turn, c.in-Mine.index) in
    let claims_is : c.claim.new.seat.claims ≡ i.claims.claims ++ mine ∷ [] = ap (λ (s : SeatState). s.claims) c.in-Mine.ensures.answer.3 in
    (inv.0, claims_is ∙ ap (λ (l : List (ℕ × ℕ)). l ++ mine ∷ []) inv.1)

pub returns-in-Spent-clause-none : goal.returns-in-Spent-clause-none
returns-in-Spent-clause-none g c =
    let inv = c.loop-turn.invariant in
    let a = c.in-Spent.ensures.answer in
    let front : List ℕ = inv.2.0 in
    let word : ℕ = a.0 in
    let seen_is : c.claim.new.seat.seen ≡ c.args.self.now.seen ++ (front ++ word ∷ []) = ap (λ (s : SeatState). s.seen) a.3 ∙ ap (λ (l : List ℕ). l ++ word ∷ []) inv.2.1 ∙ append_assoc c.args.self.now.seen front (word ∷ []) in
    (inv.0, ap (λ (s : SeatState). s.claims) a.3 ∙ inv.1, (front, word, seen_is, a.1))
