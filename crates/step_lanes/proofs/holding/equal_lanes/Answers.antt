use Rattle.step_lanes.proofs.MaskedLanes.{equal_lane, equal_lanes_kept}
use Rattle.step_lanes.proofs.holding.equal_lanes.Goals as goal

pub returns-clause-kept : goal.returns-clause-kept
returns-clause-kept c b lt h = (equal_lane b c.args.x c.args.y c.args.mask lt c.ranges.x.fits c.ranges.y.fits h).1

pub returns-clause-equal : goal.returns-clause-equal
returns-clause-equal c b lt h = (equal_lane b c.args.x c.args.y c.args.mask lt c.ranges.x.fits c.ranges.y.fits h).0

pub returns-clause-all : goal.returns-clause-all
returns-clause-all c b lt on same = equal_lanes_kept b c.args.x c.args.y c.args.mask lt c.ranges.x.fits c.ranges.y.fits on same
