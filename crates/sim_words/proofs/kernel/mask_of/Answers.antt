use Rattle.std.proofs.Common.{◌∙◌, sym}
use Rattle.sim_words.proofs.Lanes.{lane_ones, lane_zero}
use Rattle.sim_words.proofs.kernel.mask_of.Goals as goal

pub returns-then-complement : goal.returns-then-complement
returns-then-complement c b lt = lane_ones b lt ∙ sym (sym c.complement.ensures ∙ c.if-complement.true)

pub returns-else-complement : goal.returns-else-complement
returns-else-complement c b lt = lane_zero b ∙ sym (sym c.complement.ensures ∙ c.if-complement.false)
