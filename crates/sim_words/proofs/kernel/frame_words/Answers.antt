use Rattle.std.proofs.Common.{◌∙◌}
use Rattle.sim_words.specs.Lanes.{lane}
use Rattle.sim_words.proofs.Frames.{length_lane}
use Rattle.sim_words.proofs.kernel.frame_words.Goals as goal

pub returns-clause-lanes : goal.returns-clause-lanes
returns-clause-lanes c b lt =
    c.fill.ensures.lanes b lt (lane b c.args.state.now) (lane b c.args.inputs.now)
    (record { state_length = length_lane b c.args.state.now ∙ c.requires.state; input_length = length_lane b c.args.inputs.now ∙ c.requires.inputs })
    (c.place_leaves.ensures.ready b)
