use Rattle.std.proofs.Common.{◌≡◌, cond, is_some, length}
use Rattle.split_workers.proofs.worker.Worker.leave.Given as goal

abbrev pub invariant-loop-held : goal.invariant-loop-held
invariant-loop-held g l = (l.self-inside.desk.party ≡ l.fn.self.party) × (l.self-inside.desk.ended ≡ l.fn.self.ended) × (l.self-inside.desk.answered ≡ l.fn.self.answered)
    × (length l.self-inside.desk.claims ≡ l.fn.self.claims) × (cond (is_some l.self-inside.ticket) 1 0 ≡ l.fn.self.kept) × (l.self-inside.versions.now ≡ g.L.Run.list)

abbrev pub decreases-loop-held : goal.decreases-loop-held
decreases-loop-held g l = length l.self-inside.pocket.items
