use Rattle.std.proofs.Common.{arith}
use Rattle.circ_model.proofs.Rows.{length_places}
use Rattle.tried_classes.proofs.plain.few_free_bits.Goals as goal

pub overflow_mul-bits : goal.overflow_mul-bits
overflow_mul-bits c = omega (arith, c.inputs.ensures, c.len-places.ensures.places, c.len-places.ensures.few, length_places c.args.product.now)

pub overflow_add-bits : goal.overflow_add-bits
overflow_add-bits c = omega (arith, c.inputs.ensures, c.latches.ensures, c.len-places.ensures.places, c.len-places.ensures.few, length_places c.args.product.now)
