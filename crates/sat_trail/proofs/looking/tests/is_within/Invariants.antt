use Rattle.std.proofs.Common.{◌<◌, ◌*◌, ℕ, length, get_or}
use Rattle.sat_trail.proofs.looking.tests.is_within.Given as goal

abbrev pub invariant-loop-lit : goal.invariant-loop-lit
invariant-loop-lit l = (k : ℕ) → k < l.lit-index → get_or l.clause k 0 < 2 * length l.trail.at.items
