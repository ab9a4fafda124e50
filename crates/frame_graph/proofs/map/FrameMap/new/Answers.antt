use Rattle.std.proofs.Common.{◌≤◌, ◌*◌, arith}
use Rattle.std.proofs.Math.Nat.{mul-le-mul}
use Rattle.product_machine.proofs.States.{few_inputs, few_latches}
use Rattle.frame_graph.proofs.map.FrameMap.new.Goals as goal

pub overflow_mul-count : goal.overflow_mul-count
overflow_mul-count c =
    let few = few_inputs c.args.product.now c.cells-cells.ensures.pair in
    let narrow : c.inputs.result ≤ 2000001 = omega (arith, c.inputs.ensures) in
    let all : c.args.frames * c.inputs.result ≤ 64 * 2000001 = mul-le-mul c.requires.few narrow in
    omega arith

pub overflow_add-count : goal.overflow_add-count
overflow_add-count c =
    let few = few_inputs c.args.product.now c.cells-cells.ensures.pair in
    let states = few_latches c.args.product.now c.cells-cells.ensures.pair in
    let narrow : c.inputs.result ≤ 2000001 = omega (arith, c.inputs.ensures) in
    let all : c.args.frames * c.inputs.result ≤ 64 * 2000001 = mul-le-mul c.requires.few narrow in
    omega (arith, c.latches.ensures)
