use Rattle.aiger_codec.proofs.HeaderLaws.{header_spelled}
use Rattle.aiger_codec.proofs.HeaderAgain.{header_is_read}
use Rattle.aiger_codec.proofs.laws.headers.Goals as goal

pub returns-clause-read : goal.returns-clause-read
returns-clause-read c = header_spelled

pub returns-clause-read_again : goal.returns-clause-read_again
returns-clause-read_again c = header_is_read
