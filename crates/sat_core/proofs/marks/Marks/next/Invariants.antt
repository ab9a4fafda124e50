use Rattle.std.proofs.Common.{◌≡◌, ◌≤◌, ◌<◌, ℕ, false, get_or}
use Rattle.sat_core.specs.Analysis.{AreCounted}
use Rattle.sat_core.proofs.marks.Marks.next.Given as goal

abbrev pub invariant-down : goal.invariant-down
invariant-down l = record {
  low : l.i ≤ l.from;
  counted : AreCounted l.i l.self;
  none : (q : ℕ) → l.i ≤ q → q < l.from → get_or l.self.seen.items q false ≡ false;
}

abbrev pub decreases-down : goal.decreases-down
decreases-down l = l.i
