use Rattle.std.proofs.Common.{◌≡◌, ◌∙◌, ◌+◌, length, ap, arith}
use Rattle.circ_model.specs.Meaning.{Pair}
use Rattle.circ_model.specs.Netlist.{Netlist}
use Rattle.induction_base.proofs.Sites.{left_start, right_start}
use Rattle.induction_base.proofs.free_bits.latch_place.Goals as goal

pub returns-then-j-lefts-clause-bits : goal.returns-then-j-lefts-clause-bits
returns-then-j-lefts-clause-bits c =
    let pair : Pair = c.args.product.now in
    let many : length c.latches.result.now ≡ length pair.left.latches = ap length c.latches.ensures ∙ ap (λ (n : Netlist). length n.latches) c.left.ensures in
    let yes = c.if-j-lefts.true in
    left_start pair c.args.j (1 + c.inputs-from.result + c.args.j) c.cells-cells.ensures.pair (omega arith) (omega (arith, c.inputs-from.ensures))

pub returns-clause-bits : goal.returns-clause-bits
returns-clause-bits c =
    let pair : Pair = c.args.product.now in
    let many : length c.latches.result.now ≡ length pair.left.latches = ap length c.latches.ensures ∙ ap (λ (n : Netlist). length n.latches) c.left.ensures in
    let most : length c.gates.result.now ≡ length pair.left.gates = ap length c.gates.ensures ∙ ap (λ (n : Netlist). length n.gates) c.left-2.ensures in
    let no = c.if-j-lefts.false in
    right_start pair c.args.j (1 + c.inputs-from.result + length c.gates.result.now + c.args.j) c.cells-cells.ensures.pair (omega arith) c.requires (omega (arith, c.inputs-from.ensures))
