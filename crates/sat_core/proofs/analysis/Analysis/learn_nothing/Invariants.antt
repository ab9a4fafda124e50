use Rattle.std.proofs.Common.{◌≡◌, ◌≤◌}
use Rattle.sat_core.specs.Analysis.{State, AreResolved}
use Rattle.sat_core.proofs.analysis.Analysis.learn_nothing.Given as goal

abbrev pub invariant-down : goal.invariant-down
invariant-down l = record {
  state : State l.db l.trail.lits.items l.self l.i;
  resolved : AreResolved l.self.marks.seen.items l.i;
  zero : l.self.marks.start ≡ 0;
  limit : l.i ≤ l.from;
}

abbrev pub decreases-down : goal.decreases-down
decreases-down l = l.i
