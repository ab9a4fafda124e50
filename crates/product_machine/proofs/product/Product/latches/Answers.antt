use Rattle.std.proofs.Common.{◌∙◌, length, ap, subst, arith}
use Rattle.circ_model.specs.Meaning.{IsSoundPair}
use Rattle.product_machine.specs.States.{nexts}
use Rattle.product_machine.proofs.States.{few_latches, length_nexts}
use Rattle.product_machine.proofs.product.Product.latches.Goals as goal

pub overflow_cast-result : goal.overflow_cast-result
overflow_cast-result c =
    let is : IsSoundPair c.args.self.now = subst IsSoundPair c.self.view_is c.self.invariant.0 in
    omega (arith, few_latches c.args.self.now is, length_nexts c.args.self.now, ap length (c.self.invariant.2 ∙ ap nexts c.self.view_is), c.len.ensures)
