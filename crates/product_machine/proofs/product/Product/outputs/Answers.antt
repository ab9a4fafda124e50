use Rattle.std.proofs.Common.{◌∙◌, length, ap, subst, arith}
use Rattle.circ_model.specs.Meaning.{IsSoundPair}
use Rattle.product_machine.specs.States.{output_pairs}
use Rattle.product_machine.proofs.States.{length_outputs}
use Rattle.product_machine.proofs.product.Product.outputs.Goals as goal

pub overflow_cast-result : goal.overflow_cast-result
overflow_cast-result c =
    let is : IsSoundPair c.args.self.now = subst IsSoundPair c.self.view_is c.self.invariant.0 in
    omega (arith, is.left.output_count, length_outputs c.args.self.now, ap length (c.self.invariant.3 ∙ ap output_pairs c.self.view_is), c.len.ensures)

pub returns : goal.returns
returns c = omega (arith, length_outputs c.args.self.now, ap length (c.self.invariant.3 ∙ ap output_pairs c.self.view_is), c.len.ensures)
