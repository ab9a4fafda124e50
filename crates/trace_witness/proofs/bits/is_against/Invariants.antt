use Rattle.std.proofs.Common.{◌≡◌, drop}
use Rattle.circ_model.specs.Meaning.{resets}
use Rattle.trace_witness.specs.Bits.{bits_of, is_against}
use Rattle.trace_witness.proofs.bits.is_against.Given as goal

abbrev pub invariant-loop-i : goal.invariant-loop-i
invariant-loop-i l = is_against (drop l.i (resets l.product)) (bits_of (drop l.i l.line)) ≡ is_against (resets l.product) (bits_of l.line)
