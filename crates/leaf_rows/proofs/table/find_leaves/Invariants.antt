use Rattle.std.proofs.Common.{◌≡◌, take}
use Rattle.leaf_rows.specs.Rows.{leaf_places}
use Rattle.leaf_rows.proofs.table.find_leaves.Given as goal

abbrev pub invariant-loop-p : goal.invariant-loop-p
invariant-loop-p l = l.places.items ≡ leaf_places 0 (take l.p l.cells)
