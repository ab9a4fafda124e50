use Rattle.std.proofs.Common.{◌≡◌, ◌<◌, ◌/◌, ◌%◌, ◌==◌, ℕ, false, length, get_or}
use Rattle.sat_trail.specs.Trail.{StandsBelow}
use Rattle.sat_core.proofs.solving.row_of.Given as goal

abbrev pub invariant-loop-v : goal.invariant-loop-v
invariant-loop-v l = record {
  size : length l.row.items ≡ l.v;
  trues : (k : ℕ) → StandsBelow l.trail.lits.items (length l.trail.lits.items) k → k / 2 < l.v → get_or l.row.items (k / 2) false ≡ (k % 2 == 0);
}
