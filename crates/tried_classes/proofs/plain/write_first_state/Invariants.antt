use Rattle.std.proofs.Common.{◌≡◌, ◌<◌, ℕ, length, slice_index_or}
use Rattle.circ_model.specs.declared.netlist.Reset.TheVariants.{Free}
use Rattle.circ_model.specs.Meaning.{bit, resets}
use Rattle.circ_model.specs.Runs.{first_bit}
use Rattle.tried_classes.proofs.plain.write_first_state.Given as goal

abbrev pub invariant-loop-i : goal.invariant-loop-i
invariant-loop-i l = (length l.state ≡ length l.initial.state) × ((k : ℕ) → k < l.i → bit l.state k ≡ first_bit (slice_index_or (resets l.product) k Free))
