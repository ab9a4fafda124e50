use Rattle.std.proofs.Common.{◌<◌, ℕ, get_or, [], ◌⊎◌}
use Rattle.sat_trail.specs.Looking.{IsTrueIn, IsOpenIn}
use Rattle.sat_trail.proofs.trail.Trail.look_through.Given as goal

abbrev pub invariant-loop-i : goal.invariant-loop-i
invariant-loop-i l = (k : ℕ) → k < l.i → IsTrueIn l.self.lits.items (get_or l.db k []) ⊎ IsOpenIn l.self.at.items (get_or l.db k [])
