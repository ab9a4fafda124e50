use Rattle.std.proofs.Common.{length, ap, arith}
use Rattle.circ_model.proofs.Order.{length_variables}
use Rattle.circ_model.proofs.Rows.{length_leaves}
use Rattle.circ_model.proofs.Counting.{few_variables}
use Rattle.product_machine.proofs.product.compare.Goals as goal

pub overflow_cast-inputs : goal.overflow_cast-inputs
overflow_cast-inputs c = omega (arith, few_variables c.args.left.now c.inputs.ensures.sound, length_variables c.args.left.now, length_leaves c.args.left.now, c.inputs.ensures.sound.size, ap length c.inputs.ensures.same)

pub overflow_cast-inputs-2 : goal.overflow_cast-inputs-2
overflow_cast-inputs-2 c = omega (arith, few_variables c.args.right.now c.inputs-2.ensures.sound, length_variables c.args.right.now, length_leaves c.args.right.now, c.inputs-2.ensures.sound.size, ap length c.inputs-2.ensures.same)
