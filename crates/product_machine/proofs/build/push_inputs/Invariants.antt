use Rattle.std.proofs.Common.{◌≡◌, ◌++◌, map, take, ℕ}
use Rattle.product_machine.specs.declared.cell.Cell.TheVariants.{Given}
use Rattle.product_machine.proofs.build.push_inputs.Given as goal

abbrev pub invariant-loop-input : goal.invariant-loop-input
invariant-loop-input l = l.cells.items ≡ l.fn.cells.items ++ map (λ (v : ℕ). Given) (take l._input-index l.inputs)
