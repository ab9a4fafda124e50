use Rattle.leaf_rows.proofs.Leaves.{ArePacked}
use Rattle.leaf_rows.proofs.table.LeafTable.pack.Given as goal

abbrev pub invariant-loop-at : goal.invariant-loop-at
invariant-loop-at l = ArePacked l.self l.row l.at l.leaves
