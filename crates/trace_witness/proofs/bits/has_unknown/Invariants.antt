use Rattle.std.proofs.Common.{◌≡◌, drop}
use Rattle.trace_witness.specs.Bits.{has_unknown}
use Rattle.trace_witness.proofs.bits.has_unknown.Given as goal

abbrev pub invariant-loop-b : goal.invariant-loop-b
invariant-loop-b l = has_unknown (drop l.b-index l.line) ≡ has_unknown l.line
