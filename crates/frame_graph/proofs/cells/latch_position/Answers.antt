use Rattle.std.proofs.Common.{◌≡◌, ◌∙◌, ◌-◌, length, ap, refl, arith}
use Rattle.circ_model.specs.Meaning.{Pair}
use Rattle.circ_model.specs.Netlist.{Netlist}
use Rattle.frame_graph.proofs.Positions.{latch_at, left_position, right_position}
use Rattle.frame_graph.proofs.cells.latch_position.Goals as goal

pub overflow_sub-q-2 : goal.overflow_sub-q-2
overflow_sub-q-2 c =
    let at = latch_at c.args.product.now c.args.p c.cells-cells.ensures.pair c.requires.place c.requires.latch in
    let after = at.after in
    omega (arith, c.inputs.ensures)

pub returns-then-q-lefts-clause-bits : goal.returns-then-q-lefts-clause-bits
returns-then-q-lefts-clause-bits c =
    let pair : Pair = c.args.product.now in
    let many : length c.latches.result.now ≡ length pair.left.latches = ap length c.latches.ensures ∙ ap (λ (n : Netlist). length n.latches) c.left.ensures in
    (left_position pair c.args.p (c.args.p - 1 - c.inputs.result) c.inputs.result (length c.latches.result.now) (latch_at pair c.args.p c.cells-cells.ensures.pair c.requires.place c.requires.latch) c.inputs.ensures many refl (omega arith)).bits

pub overflow_sub-result : goal.overflow_sub-result
overflow_sub-result c =
    let pair : Pair = c.args.product.now in
    let many : length c.latches.result.now ≡ length pair.left.latches = ap length c.latches.ensures ∙ ap (λ (n : Netlist). length n.latches) c.left.ensures in
    let most : length c.gates.result.now ≡ length pair.left.gates = ap length c.gates.ensures ∙ ap (λ (n : Netlist). length n.gates) c.left-2.ensures in
    (right_position pair c.args.p (c.args.p - 1 - c.inputs.result) c.inputs.result (length c.latches.result.now) (length c.gates.result.now) (latch_at pair c.args.p c.cells-cells.ensures.pair c.requires.place c.requires.latch) c.inputs.ensures many most refl (omega arith)).0

pub returns-clause-within : goal.returns-clause-within
returns-clause-within c =
    let pair : Pair = c.args.product.now in
    let many : length c.latches.result.now ≡ length pair.left.latches = ap length c.latches.ensures ∙ ap (λ (n : Netlist). length n.latches) c.left.ensures in
    let most : length c.gates.result.now ≡ length pair.left.gates = ap length c.gates.ensures ∙ ap (λ (n : Netlist). length n.gates) c.left-2.ensures in
    (right_position pair c.args.p (c.args.p - 1 - c.inputs.result) c.inputs.result (length c.latches.result.now) (length c.gates.result.now) (latch_at pair c.args.p c.cells-cells.ensures.pair c.requires.place c.requires.latch) c.inputs.ensures many most refl (omega arith)).1.within

pub returns-clause-bits : goal.returns-clause-bits
returns-clause-bits c =
    let pair : Pair = c.args.product.now in
    let many : length c.latches.result.now ≡ length pair.left.latches = ap length c.latches.ensures ∙ ap (λ (n : Netlist). length n.latches) c.left.ensures in
    let most : length c.gates.result.now ≡ length pair.left.gates = ap length c.gates.ensures ∙ ap (λ (n : Netlist). length n.gates) c.left-2.ensures in
    (right_position pair c.args.p (c.args.p - 1 - c.inputs.result) c.inputs.result (length c.latches.result.now) (length c.gates.result.now) (latch_at pair c.args.p c.cells-cells.ensures.pair c.requires.place c.requires.latch) c.inputs.ensures many most refl (omega arith)).1.bits
