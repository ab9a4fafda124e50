use Rattle.std.proofs.Common.{◌∙◌, length, ap, sym, arith}
use Rattle.product_machine.proofs.Follow.{length_cells}
use Rattle.used_pairs.specs.Latches.{next_in}
use Rattle.used_pairs.proofs.NextValues.{cell_read, next_within}
use Rattle.used_pairs.proofs.latches.next_of.Goals as goal

pub bounds-cells-place : goal.bounds-cells-place
bounds-cells-place c = omega (arith, ap length c.cells.ensures.cells, length_cells c.args.product.now, c.requires)

pub returns-in-Held-clause-is : goal.returns-in-Held-clause-is
returns-in-Held-clause-is c = ap next_in (sym c.in-Held.is ∙ cell_read c.args.product.now c.cells.result.now c.args.place c.index-cells-place.result c.requires c.cells.ensures.cells c.index-cells-place.is)

pub returns-in-Held-clause-within : goal.returns-in-Held-clause-within
returns-in-Held-clause-within c = next_within c.args.product.now c.args.place c.in-Held.next c.cells.ensures.pair c.requires (sym (ap next_in (sym c.in-Held.is ∙ cell_read c.args.product.now c.cells.result.now c.args.place c.index-cells-place.result c.requires c.cells.ensures.cells c.index-cells-place.is)))
