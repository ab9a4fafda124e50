use Rattle.std.proofs.Common.{◌≡◌, ◌<◌, ℕ, length}
use Rattle.circ_model.specs.Meaning.{bit}
use Rattle.trace_witness.specs.Bits.{bits_of}
use Rattle.trace_witness.proofs.bits.row_of.Given as goal

abbrev pub invariant-loop-i : goal.invariant-loop-i
invariant-loop-i l = (length l.row ≡ length (bits_of l.line)) × ((k : ℕ) → k < l.i → bit l.row k ≡ bit (bits_of l.line) k)
