use Rattle.std.proofs.Common.{◌∙◌, length}
use Rattle.circ_model.specs.Meaning.{latches_of}
use Rattle.sim_words.specs.Lanes.{lane}
use Rattle.sim_words.specs.Wide.{stripe}
use Rattle.sim_words.proofs.Frames.{length_lane}
use Rattle.sim_words.proofs.Stripes.{length_stripe}
use Rattle.sim_words.proofs.wide_kernel.wide_frame.Goals as goal

pub returns-clause-lanes : goal.returns-clause-lanes
returns-clause-lanes c j b small lt =
    let pair = c.args.product.now in
    let state = stripe (latches_of pair) j c.args.state.now in
    let inputs = stripe (length pair.left.inputs) j c.args.inputs.now in
    c.fill.ensures.lanes j b small lt (lane b state) (lane b inputs)
    (record { state_length = length_lane b state ∙ length_stripe (latches_of pair) j c.args.state.now; input_length = length_lane b inputs ∙ length_stripe (length pair.left.inputs) j c.args.inputs.now })
    (c.place_leaves.ensures.ready j b small)
