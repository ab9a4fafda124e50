use Rattle.std.proofs.Common.{◌≡◌, ◌++◌, map, take}
use Rattle.circ_model.specs.declared.netlist.Latch.{Latch}
use Rattle.circ_model.specs.Meaning.{literal_by}
use Rattle.product_machine.specs.Tables.{says}
use Rattle.product_machine.proofs.build.push_nexts.Given as goal

abbrev pub invariant-loop-latch : goal.invariant-loop-latch
invariant-loop-latch l = l.nexts.items ≡ l.initial.nexts.items ++ map (λ (x : Latch). literal_by (says l.table) x.next) (take l.latch-index l.latches)
