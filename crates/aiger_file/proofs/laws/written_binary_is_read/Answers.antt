use Rattle.aiger_file.proofs.WrittenBinary.{binary_spelled, binary_read}
use Rattle.aiger_file.proofs.laws.written_binary_is_read.Goals as goal

pub returns-clause-is_spelled : goal.returns-clause-is_spelled
returns-clause-is_spelled c = binary_spelled

pub returns-clause-is_read : goal.returns-clause-is_read
returns-clause-is_read c = binary_read
