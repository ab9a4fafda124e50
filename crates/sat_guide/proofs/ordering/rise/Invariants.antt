use Rattle.std.proofs.Common.{◌<◌, ◌^◌}
use Rattle.sat_guide.proofs.ordering.rise.Given as goal

abbrev pub invariant-up : goal.invariant-up
invariant-up l = l.i < 2 ^ 63

abbrev pub decreases-up : goal.decreases-up
decreases-up l = l.i
