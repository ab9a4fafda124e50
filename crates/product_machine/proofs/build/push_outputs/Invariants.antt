use Rattle.std.proofs.Common.{◌≡◌, ℕ, map, slice_index}
use Rattle.std.specs.List.{range_with_len}
use Rattle.circ_model.specs.Meaning.{literal_by}
use Rattle.product_machine.specs.Tables.{says}
use Rattle.product_machine.proofs.build.push_outputs.Given as goal

abbrev pub invariant-loop-j : goal.invariant-loop-j
invariant-loop-j l = l.outputs.items ≡ map (λ (j : ℕ). (literal_by (says l.left_table) (slice_index l.left j), literal_by (says l.right_table) (slice_index l.right j))) (range_with_len 0 l.j)
