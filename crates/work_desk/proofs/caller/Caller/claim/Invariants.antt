use Rattle.std.proofs.Common.{◌≡◌, ◌<◌, ◌++◌, ℕ, List}
use Rattle.work_desk.specs.Seats.{IsSameWorker, calling}
use Rattle.work_desk.proofs.caller.Caller.claim.Given as goal

-- no pair was claimed yet, though words were shown
abbrev pub invariant-loop-turn : goal.invariant-loop-turn
invariant-loop-turn g l = IsSameWorker l.fn.self (calling l.self-inside.seat l.self-inside.claims) × (l.self-inside.claims.claims ≡ l.fn.self.claims) × ((front : List ℕ) × (l.self-inside.claims.seen ≡ l.fn.self.seen ++ front))
    × (l.self-inside.seat.party < g.L.Run.workers) × (l.self-inside.word.now ≡ g.L.Run.word) × (l.self-inside.claims.word ≡ g.L.Run.word)
