use Rattle.std.proofs.Common.{◌≡◌, ◌==◌, ◌<◌, ◌+◌, ℕ, length}
use Rattle.std.specs.Int.{bit_at}
use Rattle.circ_model.specs.Meaning.{bit}
use Rattle.tried_classes.proofs.plain.write_bits.Given as goal

abbrev pub invariant-loop-i : goal.invariant-loop-i
invariant-loop-i l = (length l.row ≡ length l.initial.row) × ((k : ℕ) → k < l.i → bit l.row k ≡ (bit_at l.number (l.from + k) == 1))
