use Rattle.std.proofs.Common.{◌<◌, ◌*◌, ℕ, [], length, get_or}
use Rattle.std.specs.List.{All}
use Rattle.sat_trail.proofs.looking.tests.are_within.Given as goal

abbrev pub invariant-loop-i : goal.invariant-loop-i
invariant-loop-i l = (k : ℕ) → k < l.i → All (λ x. x < 2 * length l.trail.at.items) (get_or l.db k [])
