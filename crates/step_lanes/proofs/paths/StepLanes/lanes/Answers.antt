use Rattle.std.proofs.Common.{subst}
use Rattle.std.specs.Prelude.{IsTrue}
use Rattle.sim_words.specs.Lanes.{lane, lane_bit}
use Rattle.step_lanes.specs.Paths.{AreLanes, LaneFrames}
use Rattle.step_lanes.proofs.PathLanes.{lane_may_split}
use Rattle.step_lanes.proofs.paths.StepLanes.lanes.Goals as goal

pub returns-clause-split : goal.returns-clause-split
returns-clause-split c keeps b lt on =
    let s : LaneFrames = c.args.self.now in
    let is : AreLanes s = subst AreLanes c.self.view_is c.self.invariant in
    lane_may_split s.pair s.k s.classes s.frames (lane_bit b s.mask) (lane b s.words) (lane b s.state) keeps (is.lanes b lt) c.requires (subst (λ (x : LaneFrames). IsTrue (lane_bit b x.mask)) c.self.view_is on)

pub returns-clause-lanes : goal.returns-clause-lanes
returns-clause-lanes c = subst AreLanes c.self.view_is c.self.invariant
