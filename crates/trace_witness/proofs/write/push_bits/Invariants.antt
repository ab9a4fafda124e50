use Rattle.std.proofs.Common.{◌≡◌, ◌++◌, drop}
use Rattle.trace_witness.specs.Texts.{bytes_of}
use Rattle.trace_witness.proofs.write.push_bits.Given as goal

abbrev pub invariant-loop-i : goal.invariant-loop-i
invariant-loop-i l = l.into.items ++ bytes_of (drop l.i l.bits) ≡ l.initial.into.items ++ bytes_of l.bits
