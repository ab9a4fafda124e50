use Rattle.aiger_file.proofs.SpelledFile.{file_spelled, file_read}
use Rattle.aiger_file.proofs.laws.spelled_files.Goals as goal

pub returns-clause-is_spelled : goal.returns-clause-is_spelled
returns-clause-is_spelled c = file_spelled

pub returns-clause-is_read : goal.returns-clause-is_read
returns-clause-is_read c = file_read
