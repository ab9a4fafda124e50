use Rattle.net_reduce.specs.Table.{IsTable}
use Rattle.net_reduce.proofs.table.table_of.Given as goal

abbrev pub invariant-loop-place : goal.invariant-loop-place
invariant-loop-place l = IsTable l.net l.classes l.place l.table.items
