use Rattle.std.proofs.Common.{◌<◌, ℕ, []}
use Rattle.product_machine.specs.States.{StartsLike}
use Rattle.trace_witness.specs.Bits.{bits_of}
use Rattle.trace_witness.proofs.bits.breaks_tie.Given as goal

abbrev pub invariant-loop-i : goal.invariant-loop-i
invariant-loop-i l = (k : ℕ) → k < l.i → StartsLike l.product (record { start = bits_of l.line; inputs = [] }) k
