use Rattle.std.proofs.Common.{◌≡◌, ◌+◌, cond, is_some, length}
use Rattle.split_workers.proofs.worker.Worker.hand_in.Given as goal

-- each pair that it holds no more is answered
abbrev pub invariant-loop-found : goal.invariant-loop-found
invariant-loop-found g l = (l.self-inside.desk.party ≡ l.fn.self.party) × (l.self-inside.desk.ended ≡ l.fn.self.ended)
    × (l.self-inside.desk.answered + length l.self-inside.pocket.items ≡ l.fn.self.answered + l.fn.self.held)
    × (length l.self-inside.desk.claims ≡ l.fn.self.claims) × (cond (is_some l.self-inside.ticket) 1 0 ≡ l.fn.self.kept) × (l.self-inside.versions.now ≡ g.L.Run.list)

abbrev pub decreases-loop-found : goal.decreases-loop-found
decreases-loop-found g l = length l.self-inside.pocket.items
