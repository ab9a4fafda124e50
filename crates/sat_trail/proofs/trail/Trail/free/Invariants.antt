use Rattle.std.proofs.Common.{◌<◌, ℕ, get_or}
use Rattle.sat_trail.proofs.trail.Trail.free.Given as goal

abbrev pub invariant-loop-v : goal.invariant-loop-v
invariant-loop-v l = (k : ℕ) → k < l.v → 0 < get_or l.self.at.items k 0
