use Rattle.std.proofs.Common.{◌≡◌, ◌∙◌, ◌+◌, ℕ, List, length, get_or, ap, arith}
use Rattle.circ_model.specs.Meaning.{Pair, left_from, right_from}
use Rattle.circ_model.proofs.Rows.{length_own}
use Rattle.circ_model.specs.Netlist.{Netlist}
use Rattle.product_machine.proofs.OneRow.{ready}
use Rattle.sim_words.specs.Lanes.{lane}
use Rattle.sim_words.proofs.Frames.{length_lane, lane_same}
use Rattle.sim_words.proofs.kernel.place_leaves.Goals as goal

pub returns-clause-ready : goal.returns-clause-ready
returns-clause-ready c b =
    let pair : Pair = c.args.product.now in
    let s = c.cells-cells.ensures.pair.inputs in
    let l = ap length (c.latches-lefts.ensures ∙ ap (λ (net : Netlist). net.latches) c.left.ensures) in
    let g = ap length (c.gates-gates.ensures ∙ ap (λ (net : Netlist). net.gates) c.left-2.ensures) in
    let r = ap length (c.latches-rights.ensures ∙ ap (λ (net : Netlist). net.latches) c.right.ensures) in
    let o = length_own pair.left in
    let ws : List ℕ = c.copy_words-3.new.to in
    ready pair (lane b c.args.state.now) (lane b c.args.inputs.now) (lane b ws) c.cells-cells.ensures.pair
    (record { state_length = length_lane b c.args.state.now ∙ c.requires.state; input_length = length_lane b c.args.inputs.now ∙ c.requires.inputs })
    (λ k lt. lane_same b ws c.args.inputs.now (1 + k) k
    (c.copy_words-3.ensures.below (1 + k) (omega arith) ∙ c.copy_words-2.ensures.below (1 + k) (omega arith) ∙ c.copy_words.ensures.copied k (omega arith) ∙ ap (word c.args.inputs.now) (let e : 0 + k ≡ k = omega arith in e)))
    (λ k lt. lane_same b ws c.args.state.now (left_from pair + k) k
    (c.copy_words-3.ensures.below (left_from pair + k) (omega arith) ∙ ap (word c.copy_words-2.new.to) (let e : left_from pair + k ≡ 1 + length c.args.inputs.now + k = omega (arith, c.requires.inputs) in e)
    ∙ c.copy_words-2.ensures.copied k (omega arith) ∙ ap (word c.args.state.now) (let e : 0 + k ≡ k = omega arith in e)))
    (λ k lt. lane_same b ws c.args.state.now (right_from pair + k) (length pair.left.latches + k)
    (ap (word ws) (let e : right_from pair + k ≡ 1 + length c.args.inputs.now + length c.latches-lefts.result.now + length c.gates-gates.result.now + k = omega (arith, c.requires.inputs) in e)
    ∙ c.copy_words-3.ensures.copied k (omega arith) ∙ ap (word c.args.state.now) (let e : length c.latches-lefts.result.now + k ≡ length pair.left.latches + k = omega arith in e)))
  where
    word : List ℕ → ℕ → ℕ
    word list k = get_or list k 0
