use Rattle.std.proofs.Common.{◌∙◌, ◌&&◌, sym, Bool, ap, ap₂, get_or, arith}
use Rattle.std.proofs.lemmas.Simd.{get_or-zip2, length-zip2}
use Rattle.sim_words.specs.Lanes.{lane_bit}
use Rattle.sim_words.proofs.Lanes.{lane_and}
use Rattle.sim_words.proofs.wide_kernel.gate_words.Goals as goal

pub returns-clause-value : goal.returns-clause-value
returns-clause-value c j b small less =
    ap (lane_bit b) (get_or-zip2 _ c.literal_words.result c.literal_words-2.result j 0 0 0 (omega (arith, c.literal_words.ensures.size)) (omega (arith, c.literal_words-2.ensures.size)))
    ∙ lane_and b (get_or c.literal_words.result j 0) (get_or c.literal_words-2.result j 0)
    ∙ ap₂ (λ (x y : Bool). x && y) (c.literal_words.ensures.value j b small less) (c.literal_words-2.ensures.value j b small less)

pub returns-clause-size : goal.returns-clause-size
returns-clause-size c = length-zip2 _ c.literal_words.result c.literal_words-2.result (c.literal_words.ensures.size ∙ sym c.literal_words-2.ensures.size) ∙ c.literal_words.ensures.size
