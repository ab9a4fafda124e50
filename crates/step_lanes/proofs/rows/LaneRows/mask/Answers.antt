use Rattle.std.proofs.Common.{subst}
use Rattle.std.specs.Prelude.{IsTrue}
use Rattle.sim_words.specs.Lanes.{lane_bit}
use Rattle.step_lanes.specs.Rows.{AreLaneRows, MaskedRows}
use Rattle.step_lanes.proofs.rows.LaneRows.mask.Goals as goal

pub returns-clause-may : goal.returns-clause-may
returns-clause-may c b lt on =
    let r : MaskedRows = c.args.self.now in
    let is : AreLaneRows r = subst AreLaneRows c.self.view_is c.self.invariant in
    is.may b lt (subst (λ (x : MaskedRows). IsTrue (lane_bit b x.mask)) c.self.view_is on)
