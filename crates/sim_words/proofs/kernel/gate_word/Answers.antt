use Rattle.std.proofs.Common.{◌∙◌, ◌&&◌, Bool, ap₂}
use Rattle.sim_words.proofs.Lanes.{lane_and}
use Rattle.sim_words.proofs.kernel.gate_word.Goals as goal

pub returns : goal.returns
returns c b lt = lane_and b c.literal_word.result c.literal_word-2.result ∙ ap₂ (λ (x y : Bool). x && y) (c.literal_word.ensures b lt) (c.literal_word-2.ensures b lt)
