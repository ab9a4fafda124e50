use Rattle.std.proofs.Common.{◌≡◌, ◌++◌, map, take}
use Rattle.std.specs.Prelude.{count_by}
use Rattle.std.specs.List.{range_with_len}
use Rattle.circ_model.specs.declared.netlist.Latch.{Latch}
use Rattle.circ_model.specs.Meaning.{is_free, literal_by}
use Rattle.product_machine.specs.Cells.{latch_cell}
use Rattle.product_machine.specs.Tables.{says}
use Rattle.product_machine.proofs.build.push_latches.Given as goal

abbrev pub invariant-loop-k : goal.invariant-loop-k
invariant-loop-k l = (l.cells.items ≡ l.initial.cells.items ++ map (latch_cell (literal_by (says l.table)) l.partners l.latches) (range_with_len 0 l.k)) × (l.used ≡ count_by is_free (take l.k (map (λ (x : Latch). x.reset) l.latches)))
