use Rattle.leaf_rows.proofs.Rows.{IsFilled}
use Rattle.leaf_rows.proofs.table.LeafTable.fill.Given as goal

abbrev pub invariant-loop-p : goal.invariant-loop-p
invariant-loop-p l = IsFilled l.self l.leaves l.p l.at l.row
