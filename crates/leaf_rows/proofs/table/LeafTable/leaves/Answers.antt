use Rattle.std.proofs.Common.{ap, arith, length, List}
use Rattle.std.proofs.lemmas.List.Sums.{count_by-le-length}
use Rattle.leaf_rows.proofs.Leaves.{length_places}
use Rattle.leaf_rows.specs.Rows.{is_leaf, leaf_count}
use Rattle.product_machine.specs.declared.cell.Cell.{Cell}
use Rattle.leaf_rows.proofs.table.LeafTable.leaves.Goals as goal

pub overflow_cast-result : goal.overflow_cast-result
overflow_cast-result c =
    let cs : List Cell = c.self.inside.cells.items in
    omega (arith, c.len.ensures, ap length c.self.invariant.1, length_places 0 cs, count_by-le-length is_leaf cs, c.self.invariant.2)

pub returns : goal.returns
returns c =
    let cs : List Cell = c.self.inside.cells.items in
    omega (arith, c.len.ensures, ap length c.self.invariant.1, length_places 0 cs, ap leaf_count c.self.view_is)
