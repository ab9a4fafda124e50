use Rattle.std.proofs.Common.{◌≡◌, ◌++◌, map, take}
use Rattle.circ_model.specs.Meaning.{literal_by}
use Rattle.product_machine.specs.Cells.{gate_cell}
use Rattle.product_machine.specs.Tables.{says}
use Rattle.product_machine.proofs.build.push_gates.Given as goal

abbrev pub invariant-loop-gate : goal.invariant-loop-gate
invariant-loop-gate l = l.cells.items ≡ l.initial.cells.items ++ map (gate_cell (literal_by (says l.table))) (take l.gate-index l.gates)
