use Rattle.std.proofs.Common.{◌≡◌, ◌∙◌, ◌<◌, ◌+◌, List, length, ap, sym, subst, arith, set, refl}
use Rattle.leaf_rows.proofs.Leaves.{ArePacked, length_places, packed_all, packed_more, place_inside, place_read}
use Rattle.leaf_rows.proofs.Rows.{only_row}
use Rattle.leaf_rows.specs.Rows.{leaf_count, leaves_in, row_by}
use Rattle.product_machine.specs.Cells.{IsArranged}
use Rattle.product_machine.specs.declared.cell.Cell.{Cell}
use Rattle.leaf_rows.proofs.table.LeafTable.pack.Goals as goal

pub loop-at-init : goal.loop-at-init
loop-at-init c = record { size = c.requires.leaves; done = refl }

pub index-requires : goal.index-requires
index-requires c =
    let test = c.loop-at-test.true in
    omega (arith, ap length c.self.invariant.1, length_places 0 c.self.inside.cells.items, ap leaf_count c.self.view_is, c.leaves-at-end.ensures)

pub get-requires : goal.get-requires
get-requires c =
    let cs : List Cell = c.args.self.now in
    let test = c.loop-at-test.true in
    let lt : c.loop-at.at < leaf_count cs = omega (arith, c.leaves-at-end.ensures) in
    let read = place_read c.self.inside.places.items c.self.inside.cells.items cs c.loop-at.at c.index.result.now c.self.invariant.1 c.self.view_is lt c.index.ensures in
    omega (arith, place_inside cs c.loop-at.at c.index.result.now lt read, c.requires.row)

pub loop-at-preserved : goal.loop-at-preserved
loop-at-preserved c =
    let cs : List Cell = c.args.self.now in
    let test = c.loop-at-test.true in
    let lt : c.loop-at.at < leaf_count cs = omega (arith, c.leaves-at-end.ensures) in
    let read = place_read c.self.inside.places.items c.self.inside.cells.items cs c.loop-at.at c.index.result.now c.self.invariant.1 c.self.view_is lt c.index.ensures in
    subst (ArePacked cs c.args.row.now (c.loop-at.at + 1)) (sym (c.set.ensures ∙ ap (set c.loop-at.leaves c.loop-at.at) c.get.ensures))
    (packed_more cs c.args.row.now c.loop-at.at c.index.result.now c.loop-at.leaves lt read c.loop-at.invariant)

-- what is packed is the row's leaves
packed : (c : goal.After-loop-at) → c.loop-at.leaves ≡ leaves_in c.args.self.now c.args.row.now
packed c =
    let test = c.loop-at-test.false in
    packed_all c.args.self.now c.args.row.now c.loop-at.at c.loop-at.leaves (omega (arith, c.leaves-at-end.ensures)) c.loop-at.invariant

pub returns-clause-leaves : goal.returns-clause-leaves
returns-clause-leaves c = packed c

pub returns-clause-row : goal.returns-clause-row
returns-clause-row c is =
    ap (row_by c.args.self.now) (packed c) ∙ only_row c.args.self.now c.args.row.now (subst IsArranged c.self.view_is c.self.invariant.0) is
