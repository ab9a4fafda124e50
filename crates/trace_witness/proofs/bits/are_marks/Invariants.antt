use Rattle.std.proofs.Common.{◌≡◌, drop}
use Rattle.trace_witness.specs.Bits.{are_marks}
use Rattle.trace_witness.proofs.bits.are_marks.Given as goal

abbrev pub invariant-loop-b : goal.invariant-loop-b
invariant-loop-b l = are_marks (drop l.b-index l.line) ≡ are_marks l.line
