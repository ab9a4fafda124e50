use Rattle.product_machine.proofs.Follow.{length_cells}
use Rattle.circ_model.specs.Meaning.{places_of}
use Rattle.std.proofs.Common.{◌∙◌, ◌≤◌, ◌*◌, ℕ, length, ap, sym, subst, arith}
use Rattle.std.proofs.Math.Nat.{mul-le-mul_right}
use Rattle.circ_model.specs.Netlist.{Netlist}
use Rattle.product_machine.proofs.Size.{few_places}
use Rattle.circ_model.proofs.Rows.{length_places}
use Rattle.frame_unroll.proofs.Standing.{reads}
use Rattle.frame_unroll.proofs.Appending.{all_room}
use Rattle.frame_unroll.proofs.path.read_path.Goals as goal

pub overflow_cast-n : goal.overflow_cast-n
overflow_cast-n c = omega (arith, (ap length c.cells.ensures.cells ∙ length_cells c.args.product.now), few_places c.args.product.now c.cells.ensures.pair, length_places c.args.product.now)

pub overflow_cast-inputs : goal.overflow_cast-inputs
overflow_cast-inputs c = omega (arith, few_places c.args.product.now c.cells.ensures.pair, length_places c.args.product.now, ap length (c.inputs.ensures.same ∙ ap (λ (n : Netlist). n.inputs) c.left.ensures))

pub overflow_cast-lefts : goal.overflow_cast-lefts
overflow_cast-lefts c = omega (arith, few_places c.args.product.now c.cells.ensures.pair, length_places c.args.product.now, ap length (c.latches.ensures ∙ ap (λ (n : Netlist). n.latches) c.left-2.ensures))

pub overflow_cast-gates : goal.overflow_cast-gates
overflow_cast-gates c = omega (arith, few_places c.args.product.now c.cells.ensures.pair, length_places c.args.product.now, ap length (c.gates.ensures ∙ ap (λ (n : Netlist). n.gates) c.left-3.ensures))

pub overflow_cast-rights : goal.overflow_cast-rights
overflow_cast-rights c = omega (arith, few_places c.args.product.now c.cells.ensures.pair, length_places c.args.product.now, ap length (c.latches-2.ensures ∙ ap (λ (n : Netlist). n.latches) c.right.ensures))

pub read_start-requires-clause-size : goal.read_start-requires-clause-size
read_start-requires-clause-size c =
    let h : 1 * places_of c.args.product.now ≤ c.args.frames * places_of c.args.product.now = mul-le-mul_right (places_of c.args.product.now) (omega arith) in
    omega (arith, few_places c.args.product.now c.cells.ensures.pair, length_places c.args.product.now, ap length (c.inputs.ensures.same ∙ ap (λ (n : Netlist). n.inputs) c.left.ensures), ap length (c.latches.ensures ∙ ap (λ (n : Netlist). n.latches) c.left-2.ensures), ap length (c.gates.ensures ∙ ap (λ (n : Netlist). n.gates) c.left-3.ensures), ap length (c.latches-2.ensures ∙ ap (λ (n : Netlist). n.latches) c.right.ensures))

pub read_start-requires-clause-room : goal.read_start-requires-clause-room
read_start-requires-clause-room c = omega (arith, few_places c.args.product.now c.cells.ensures.pair, length_places c.args.product.now, ap length (c.inputs.ensures.same ∙ ap (λ (n : Netlist). n.inputs) c.left.ensures), ap length (c.latches.ensures ∙ ap (λ (n : Netlist). n.latches) c.left-2.ensures), ap length (c.gates.ensures ∙ ap (λ (n : Netlist). n.gates) c.left-3.ensures), ap length (c.latches-2.ensures ∙ ap (λ (n : Netlist). n.latches) c.right.ensures))

pub input_rows-requires-clause-room : goal.input_rows-requires-clause-room
input_rows-requires-clause-room c =
    let n : length c.cells.result.now ≤ 2000001 = omega (arith, (ap length c.cells.ensures.cells ∙ length_cells c.args.product.now), few_places c.args.product.now c.cells.ensures.pair, length_places c.args.product.now) in
    let h = all_room c.args.frames (length c.cells.result.now) c.requires.few n in
    omega arith

pub returns : goal.returns
returns c =
    reads c.args.product.now c.args.frames c.args.row.now c.in_ok-start.start c.in_ok-inputs.inputs (length c.inputs.result.now) (length c.latches.result.now) (length c.gates.result.now) (length c.latches-2.result.now) (length c.cells.result.now)
    c.cells.ensures.pair
    (ap length (c.inputs.ensures.same ∙ ap (λ (n : Netlist). n.inputs) c.left.ensures)) (ap length (c.latches.ensures ∙ ap (λ (n : Netlist). n.latches) c.left-2.ensures))
    (ap length (c.gates.ensures ∙ ap (λ (n : Netlist). n.gates) c.left-3.ensures)) (ap length (c.latches-2.ensures ∙ ap (λ (n : Netlist). n.latches) c.right.ensures)) (ap length c.cells.ensures.cells ∙ length_cells c.args.product.now)
    c.in_ok-start.ensures.size c.in_ok-start.ensures.left c.in_ok-start.ensures.right c.in_ok-inputs.ensures.size c.in_ok-inputs.ensures.sizes c.in_ok-inputs.ensures.bits

pub input_rows-requires-clause-source : goal.input_rows-requires-clause-source
input_rows-requires-clause-source c =
    subst (λ (n : ℕ). c.args.frames * n ≤ length c.args.row.now) (sym (ap length c.cells.ensures.cells ∙ length_cells c.args.product.now)) c.requires.size
