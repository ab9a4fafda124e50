use Rattle.std.proofs.Common.{◌-◌, length}
use Rattle.aiger_codec.specs.Symbols.{symbols_at}
use Rattle.aiger_codec.proofs.SymbolSteps.{Left}
use Rattle.aiger_codec.proofs.symbols.read_symbols.Given as goal

abbrev pub invariant-lines : goal.invariant-lines
invariant-lines l = Left l.counts l.bytes l.at (symbols_at (length l.bytes) l.counts l.bytes l.start)

abbrev pub decreases-lines : goal.decreases-lines
decreases-lines l = length l.bytes - l.at
