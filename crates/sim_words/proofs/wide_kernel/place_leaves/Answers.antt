use Rattle.std.proofs.Common.{◌≡◌, ◌∙◌, ◌+◌, ◌*◌, ℕ, List, length, get_or, ap, sym, arith}
use Rattle.circ_model.specs.Meaning.{Pair, latches_of, left_from, places_of, right_from}
use Rattle.circ_model.proofs.Rows.{length_own, length_places}
use Rattle.circ_model.specs.Netlist.{Netlist}
use Rattle.product_machine.proofs.OneRow.{ready}
use Rattle.sim_words.specs.Lanes.{lane, lane_bit}
use Rattle.sim_words.specs.Wide.{stripe}
use Rattle.sim_words.proofs.Frames.{length_lane}
use Rattle.sim_words.proofs.Stripes.{length_stripe, wide_lane}
use Rattle.sim_words.proofs.wide_kernel.place_leaves.Goals as goal

pub returns-clause-ready : goal.returns-clause-ready
returns-clause-ready c j b small =
    let pair : Pair = c.args.product.now in
    let s = c.cells-cells.ensures.pair.inputs in
    let l = ap length (c.latches.ensures ∙ ap (λ (net : Netlist). net.latches) c.left.ensures) in
    let g = ap length (c.gates.ensures ∙ ap (λ (net : Netlist). net.gates) c.left-2.ensures) in
    let r = ap length (c.latches-2.ensures ∙ ap (λ (net : Netlist). net.latches) c.right.ensures) in
    let o = length_own pair.left in
    let all = length_places pair in
    let ws : List ℕ = c.copy_words-3.new.to in
    let n : ℕ = places_of pair in
    let state : List ℕ = c.args.state.now in
    let inputs : List ℕ = c.args.inputs.now in
    let i : ℕ = length pair.left.inputs in
    ready pair (lane b (stripe (latches_of pair) j state)) (lane b (stripe i j inputs)) (lane b (stripe n j ws)) c.cells-cells.ensures.pair
    (record { state_length = length_lane b (stripe (latches_of pair) j state) ∙ length_stripe (latches_of pair) j state; input_length = length_lane b (stripe i j inputs) ∙ length_stripe i j inputs })
    (λ k lt. wide_lane n j b (1 + k) ws (omega arith) ∙ ap (lane_bit b)
    (c.copy_words-3.ensures.below (8 * (1 + k) + j) (omega (arith, c.requires.inputs)) ∙ c.copy_words-2.ensures.below (8 * (1 + k) + j) (omega (arith, c.requires.inputs))
    ∙ ap (word c.copy_words.new.to) (let e : 8 * (1 + k) + j ≡ 8 + (8 * k + j) = omega arith in e) ∙ c.copy_words.ensures.copied (8 * k + j) (omega (arith, c.requires.inputs))
    ∙ ap (word inputs) (let e : 0 + (8 * k + j) ≡ 8 * k + j = omega arith in e)) ∙ sym (wide_lane i j b k inputs lt))
    (λ k lt. wide_lane n j b (left_from pair + k) ws (omega arith) ∙ ap (lane_bit b)
    (c.copy_words-3.ensures.below (8 * (left_from pair + k) + j) (omega (arith, c.requires.inputs)) ∙ ap (word c.copy_words-2.new.to) (let e : 8 * (left_from pair + k) + j ≡ 8 + length inputs + (8 * k + j) = omega (arith, c.requires.inputs) in e)
    ∙ c.copy_words-2.ensures.copied (8 * k + j) (omega arith) ∙ ap (word state) (let e : 0 + (8 * k + j) ≡ 8 * k + j = omega arith in e)) ∙ sym (wide_lane (latches_of pair) j b k state (omega arith)))
    (λ k lt. wide_lane n j b (right_from pair + k) ws (omega arith) ∙ ap (lane_bit b)
    (ap (word ws) (let e : 8 * (right_from pair + k) + j ≡ 8 + length inputs + 8 * length c.latches.result.now + 8 * length c.gates.result.now + (8 * k + j) = omega (arith, c.requires.inputs) in e)
    ∙ c.copy_words-3.ensures.copied (8 * k + j) (omega arith) ∙ ap (word state) (let e : 8 * length c.latches.result.now + (8 * k + j) ≡ 8 * (length pair.left.latches + k) + j = omega arith in e))
    ∙ sym (wide_lane (latches_of pair) j b (length pair.left.latches + k) state (omega arith)))
  where
    word : List ℕ → ℕ → ℕ
    word list k = get_or list k 0
