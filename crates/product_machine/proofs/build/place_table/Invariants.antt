use Rattle.product_machine.specs.Tables.{IsTable}
use Rattle.product_machine.proofs.build.place_table.Given as goal

abbrev pub invariant-loop-q : goal.invariant-loop-q
invariant-loop-q l = IsTable l.net l.shift l.q l.table.items
