use Rattle.std.proofs.Common.{◌∙◌, ◌<◌, ◌+◌, List, length, ap, sym, subst, arith}
use Rattle.std.proofs.lemmas.List.Sums.{count_by_more_no, count_by_more_yes}
use Rattle.circ_model.specs.Meaning.{bit}
use Rattle.leaf_rows.proofs.Rows.{IsFilled, filled_none, filled_more}
use Rattle.leaf_rows.specs.Rows.{cell_value, is_leaf}
use Rattle.product_machine.proofs.TableRead.{cell_read}
use Rattle.product_machine.specs.declared.cell.Cell.{Cell}
use Rattle.product_machine.specs.declared.cell.Cell.TheVariants.{Low}
use Rattle.product_machine.specs.Cells.{IsArranged}
use Rattle.leaf_rows.proofs.table.LeafTable.fill.Goals.{then-is_leaf, else-is_leaf}
use Rattle.leaf_rows.proofs.table.LeafTable.fill.Goals as goal

pub loop-p-init : goal.loop-p-init
loop-p-init c = filled_none c.args.self.now c.args.leaves.now c.args.row.now c.requires.row

pub loop-p-preserved : goal.loop-p-preserved
loop-p-preserved c =
    let cs : List Cell = c.args.self.now in
    let test = c.loop-p-test.true in
    let lt : c.loop-p.p < length cs = omega (arith, c.len-p-end.ensures) in
    let read = cell_read c.self.inside.cells.items cs c.loop-p.p c.index-cell.result.now c.self.view_is lt c.index-cell.ensures in
    let arranged : IsArranged cs = subst IsArranged c.self.view_is c.self.invariant.0 in
    let value = c.cell_bit-bit.ensures ∙ ap (cell_value c.loop-p.row (bit c.args.leaves.now c.loop-p.at)) (sym read) in
    subst (IsFilled cs c.args.leaves.now (c.loop-p.p + 1) c.if-is_leaf.at) (sym c.set.ensures)
    (filled_more cs c.args.leaves.now c.loop-p.p c.loop-p.at c.if-is_leaf.at c.loop-p.row c.cell_bit-bit.result arranged lt c.loop-p.invariant value
    (elim c.if-is_leaf.branch [
      | then-is_leaf w ↦ omega (arith, w.at-is, c.loop-p.invariant.count, count_by_more_yes is_leaf cs c.loop-p.p Low lt (ap is_leaf read ∙ sym w.if-is_leaf.ensures))
      | else-is_leaf w ↦ omega (arith, w.at-is, c.loop-p.invariant.count, count_by_more_no is_leaf cs c.loop-p.p Low lt (ap is_leaf read ∙ sym w.if-is_leaf.ensures))
    ]))
