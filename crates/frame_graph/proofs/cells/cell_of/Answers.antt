use Rattle.std.proofs.Common.{length, ap, arith}
use Rattle.product_machine.proofs.Follow.{length_cells}
use Rattle.frame_graph.proofs.Positions.{cell_read, rests_at}
use Rattle.frame_graph.proofs.cells.cell_of.Goals as goal

pub returns-clause-rests : goal.returns-clause-rests
returns-clause-rests c =
    rests_at c.args.product.now c.args.p c.index-cells-p.result c.cells.ensures.pair c.requires
    (cell_read c.args.product.now c.cells.result.now c.args.p c.index-cells-p.result c.requires c.cells.ensures.cells c.index-cells-p.is)

pub bounds-cells-p : goal.bounds-cells-p
bounds-cells-p c = omega (arith, ap length c.cells.ensures.cells, length_cells c.args.product.now, c.requires)

pub returns-clause-is : goal.returns-clause-is
returns-clause-is c = cell_read c.args.product.now c.cells.result.now c.args.p c.index-cells-p.result c.requires c.cells.ensures.cells c.index-cells-p.is
