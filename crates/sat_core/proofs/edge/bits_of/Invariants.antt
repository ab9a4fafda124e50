use Rattle.std.proofs.Common.{◌≡◌, ◌<◌, ℕ, length, get_or, false}
use Rattle.sat_core.proofs.edge.bits_of.Given as goal

abbrev pub invariant-loop-i : goal.invariant-loop-i
invariant-loop-i l = record {
  size : length l.row ≡ length l.bits;
  each : (k : ℕ) → k < l.i → get_or l.row k false ≡ get_or l.bits k false;
}
