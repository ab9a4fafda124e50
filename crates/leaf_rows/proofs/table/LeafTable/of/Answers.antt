use Rattle.std.proofs.Common.{◌∙◌, length, ap, subst, sym, arith}
use Rattle.leaf_rows.specs.Rows.{leaf_places}
use Rattle.product_machine.proofs.Follow.{arranged, length_cells}
use Rattle.product_machine.specs.Cells.{IsArranged}
use Rattle.leaf_rows.proofs.table.LeafTable.of.Goals as goal

pub find_leaves-requires : goal.find_leaves-requires
find_leaves-requires c =
    omega (arith, ap length c.as_slice.ensures.value, ap length c.in_ok-cells.ensures.items, ap length c.cells.ensures.cells, length_cells c.args.product.now, c.len-places.ensures.places, c.len-places.ensures.few)

pub invariant_of-result : goal.invariant_of-result
invariant_of-result c = (
  subst IsArranged (sym (c.in_ok-cells.ensures.items ∙ c.cells.ensures.cells)) (arranged c.args.product.now c.cells.ensures.pair),
  c.in_ok-places.ensures ∙ ap (leaf_places 0) c.as_slice.ensures.value,
  omega (arith, ap length c.in_ok-cells.ensures.items, ap length c.cells.ensures.cells, length_cells c.args.product.now, c.len-places.ensures.places, c.len-places.ensures.few),
)
