use Rattle.std.proofs.Common.{arith, refl, subst}
use Rattle.pair_sweep.specs.Sweeps.{Extent}
use Rattle.split_rows.specs.Rows.{IsRowApart}
use Rattle.split_rows.proofs.Held.{of_block, row_of}
use Rattle.split_rows.proofs.rows.SplitRows.find.Goals as goal

pub returns-in-Some : goal.returns-in-Some
returns-in-Some c =
    let s = c.self.inside in
    let is = of_block s.product.now s.k s.blocks.items s.blocks.items c.loop-block.block c.index.result.now c.self.invariant refl (omega (arith, c.loop-block-test.true, c.len-block-end.ensures)) c.index.ensures in
    subst (λ (e : Extent). IsRowApart e.pair e.k c.args.classes.now c.args.pair.member c.in-Some.row) c.self.view_is
    (row_of s.product.now s.k c.args.classes.now c.args.pair.member c.index.result.now c.in_ok-lane.field-0 c.in-Some.lane c.in-Some.row is c.in-Some.is c.in_ok-lane.ensures)
