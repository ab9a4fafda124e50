use Rattle.std.proofs.Common.{◌∙◌, get_or, ap, ap₂, sym}
use Rattle.circ_model.specs.Meaning.{bit, signed}
use Rattle.sim_words.specs.Lanes.{lane}
use Rattle.sim_words.proofs.Lanes.{lane_xor, lane_at}
use Rattle.sim_words.proofs.kernel.literal_word.Goals as goal

pub returns : goal.returns
returns c b lt =
    lane_xor b (get_or c.args.words.now c.var.result 0) c.mask_of.result
    ∙ ap₂ signed (c.mask_of.ensures b lt) (sym (lane_at b c.args.words.now c.var.result) ∙ ap (bit (lane b c.args.words.now)) c.var.ensures)
