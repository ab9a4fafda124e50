use Rattle.std.proofs.Common.{◌≤◌, ◌<◌, length, get_or}
use Rattle.sat_trail.proofs.trail.Trail.level_below.Given as goal

abbrev pub invariant-down : goal.invariant-down
invariant-down l = record {
  within : l.level ≤ length l.self.starts.items;
  above : l.level < length l.self.starts.items → l.place ≤ get_or l.self.starts.items l.level 0;
}

abbrev pub decreases-down : goal.decreases-down
decreases-down l = l.level
