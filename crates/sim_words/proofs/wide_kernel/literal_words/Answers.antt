use Rattle.std.proofs.Common.{◌≡◌, ◌∙◌, ◌*◌, ℕ, List, get_or, length, ap, ap₂, arith, replicate}
use Rattle.std.proofs.lemmas.List.{get_or-replicate}
use Rattle.std.proofs.lemmas.Simd.{get_or-zip2, get_or-chunk, length-chunk, length-zip2}
use Rattle.circ_model.specs.Meaning.{signed}
use Rattle.sim_words.specs.Wide.{wide_bit}
use Rattle.sim_words.proofs.Lanes.{lane_xor}
use Rattle.sim_words.specs.Lanes.{lane_bit}
use lib.Lanes.{chunk}
use Rattle.sim_words.proofs.wide_kernel.literal_words.Goals as goal

pub returns-clause-value : goal.returns-clause-value
returns-clause-value c j b small less =
    let ws : List ℕ = c.args.words.now in
    let at : ℕ = 8 * c.var.result in
    let masks : List ℕ = replicate 8 c.mask_of.result in
    let long : length (chunk at 8 ws) ≡ 8 = length-chunk at 8 ws (omega (arith, c.var.ensures, c.requires)) in
    ap (lane_bit b) (get_or-zip2 _ (chunk at 8 ws) masks j 0 0 0 (omega (arith, long)) small)
    ∙ lane_xor b (get_or (chunk at 8 ws) j 0) (get_or masks j 0)
    ∙ ap₂ signed (ap (lane_bit b) (get_or-replicate 8 j c.mask_of.result 0 small) ∙ c.mask_of.ensures b less)
    (ap (lane_bit b) (get_or-chunk at 8 ws j 0 small) ∙ ap (wide_bit ws j b) c.var.ensures)

pub returns-clause-size : goal.returns-clause-size
returns-clause-size c =
    let ws : List ℕ = c.args.words.now in
    let at : ℕ = 8 * c.var.result in
    let long : length (chunk at 8 ws) ≡ 8 = length-chunk at 8 ws (omega (arith, c.var.ensures, c.requires)) in
    length-zip2 _ (chunk at 8 ws) (replicate 8 c.mask_of.result) long ∙ long
