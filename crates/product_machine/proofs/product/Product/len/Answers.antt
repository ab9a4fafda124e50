use Rattle.std.proofs.Common.{◌∙◌, length, ap, subst, arith}
use Rattle.circ_model.specs.Meaning.{IsSoundPair}
use Rattle.product_machine.specs.Cells.{cells}
use Rattle.product_machine.proofs.Follow.{length_cells}
use Rattle.product_machine.proofs.Size.{few_places}
use Rattle.product_machine.proofs.product.Product.len.Goals as goal

pub overflow_cast-result : goal.overflow_cast-result
overflow_cast-result c =
    let is : IsSoundPair c.args.self.now = subst IsSoundPair c.self.view_is c.self.invariant.0 in
    omega (arith, few_places c.args.self.now is, length_cells c.args.self.now, ap length (c.self.invariant.1 ∙ ap cells c.self.view_is), c.len.ensures)

pub returns-clause-few : goal.returns-clause-few
returns-clause-few c =
    let is : IsSoundPair c.args.self.now = subst IsSoundPair c.self.view_is c.self.invariant.0 in
    omega (arith, few_places c.args.self.now is, length_cells c.args.self.now, ap length (c.self.invariant.1 ∙ ap cells c.self.view_is), c.len.ensures)

pub returns-clause-places : goal.returns-clause-places
returns-clause-places c = omega (arith, length_cells c.args.self.now, ap length (c.self.invariant.1 ∙ ap cells c.self.view_is), c.len.ensures)
