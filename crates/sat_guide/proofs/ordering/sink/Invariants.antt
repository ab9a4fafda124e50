use Rattle.std.proofs.Common.{◌-◌, ◌^◌}
use Rattle.sat_guide.proofs.ordering.sink.Given as goal

abbrev pub decreases-fall : goal.decreases-fall
decreases-fall l = 2 ^ 64 - l.i
