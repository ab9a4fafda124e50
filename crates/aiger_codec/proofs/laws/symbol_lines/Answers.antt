use Rattle.aiger_codec.proofs.SymbolsLaws.{symbols_spelled, symbols_read}
use Rattle.aiger_codec.proofs.laws.symbol_lines.Goals as goal

pub returns-clause-read : goal.returns-clause-read
returns-clause-read c = symbols_spelled

pub returns-clause-read_again : goal.returns-clause-read_again
returns-clause-read_again c = symbols_read
