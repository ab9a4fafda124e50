use Rattle.std.proofs.Common.{◌≡◌, ◌<◌, ℕ, length, slice_index}
use Rattle.circ_model.specs.Meaning.{bit, value_in}
use Rattle.product_machine.specs.States.{nexts}
use Rattle.product_machine.proofs.product.Product.next_state.Given as goal

abbrev pub invariant-loop-i : goal.invariant-loop-i
invariant-loop-i l = (length l.state ≡ length l.initial.state) × ((k : ℕ) → k < l.i → bit l.state k ≡ value_in l.values (slice_index (nexts l.self) k))
