use Rattle.std.proofs.Common.{◌∙◌, length, ap, subst, arith}
use Rattle.circ_model.specs.Meaning.{Pair, IsSoundPair}
use Rattle.product_machine.proofs.States.{few_inputs}
use Rattle.product_machine.proofs.product.Product.inputs.Goals as goal

pub overflow_cast-result : goal.overflow_cast-result
overflow_cast-result c =
    let is : IsSoundPair c.args.self.now = subst IsSoundPair c.self.view_is c.self.invariant.0 in
    omega (arith, few_inputs c.args.self.now is, ap length (c.inputs.ensures.same ∙ ap (λ (v : Pair). v.left.inputs) c.self.view_is))
