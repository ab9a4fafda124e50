use Rattle.std.proofs.Common.{◌≡◌, ◌≤◌, ◌<◌, ◌+◌, true, false, get_or}
use Rattle.sat_core.specs.Analysis.{State, AreResolved}
use Rattle.sat_core.proofs.analysis.Analysis.resolve_level.Given as goal

abbrev pub invariant-down : goal.invariant-down
invariant-down l = record {
  state : State l.db l.trail.lits.items l.self (l.i + 1);
  resolved : AreResolved l.self.marks.seen.items (l.i + 1);
  seen : get_or l.self.marks.seen.items l.i false ≡ true;
  start : l.self.marks.start ≡ l.fn.self.marks.start;
  low : l.self.marks.start ≤ l.i;
  some : 0 < l.self.marks.above;
  limit : l.i < l.from;
}

abbrev pub decreases-down : goal.decreases-down
decreases-down l = l.i
