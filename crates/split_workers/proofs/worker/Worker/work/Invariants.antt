use Rattle.std.proofs.Common.{◌≤◌, ◌+◌}
use Rattle.split_workers.specs.Workers.{IsAtWork}
use Rattle.split_workers.proofs.worker.Worker.work.Given as goal

-- it works on, and answered and holds only what it claimed
abbrev pub invariant-loop-turn : goal.invariant-loop-turn
invariant-loop-turn g l = IsAtWork l.fn.self.party l.self
    × (l.self.answered + l.self.held + l.self.kept + l.fn.self.claims ≤ l.fn.self.answered + l.fn.self.held + l.fn.self.kept + l.self.claims)
