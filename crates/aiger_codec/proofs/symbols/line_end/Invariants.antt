use Rattle.std.proofs.Common.{◌≡◌, drop}
use Rattle.aiger_codec.specs.Symbols.{first_end}
use Rattle.aiger_codec.proofs.symbols.line_end.Given as goal

abbrev pub invariant-loop-at : goal.invariant-loop-at
invariant-loop-at l = first_end (drop l.at l.bytes) l.at ≡ first_end (drop l.start l.bytes) l.start
