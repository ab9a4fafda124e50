use Rattle.std.proofs.Common.{◌∙◌, ◌&&◌, Bool, ap}
use Rattle.std.specs.Prelude.{bit_xor}
use Rattle.sim_words.specs.Lanes.{lane_bit}
use Rattle.sim_words.proofs.Lanes.{lane_and, lane_xor}
use Rattle.step_lanes.proofs.holding.apart_lanes.Goals as goal

pub returns : goal.returns
returns c b = lane_and b (bit_xor c.args.x c.args.y) c.args.mask ∙ ap (λ (z : Bool). z && lane_bit b c.args.mask) (lane_xor b c.args.x c.args.y)
