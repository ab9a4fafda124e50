use Rattle.aiger_codec.proofs.LineLaws.{number_spelled, number_read, line_spelled, line_is_read}
use Rattle.aiger_codec.proofs.laws.numbers_and_lines.Goals as goal

pub returns-clause-number : goal.returns-clause-number
returns-clause-number c = number_spelled

pub returns-clause-number_again : goal.returns-clause-number_again
returns-clause-number_again c = number_read

pub returns-clause-line : goal.returns-clause-line
returns-clause-line c = line_spelled

pub returns-clause-line_again : goal.returns-clause-line_again
returns-clause-line_again c = line_is_read
