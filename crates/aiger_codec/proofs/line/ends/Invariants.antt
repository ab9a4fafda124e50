use Rattle.std.proofs.Common.{◌≡◌, drop}
use Rattle.aiger_codec.specs.Lines.{has_end}
use Rattle.aiger_codec.proofs.line.ends.Given as goal

abbrev pub invariant-loop-b : goal.invariant-loop-b
invariant-loop-b l = has_end (drop l.b-index l.bytes) ≡ has_end l.bytes
