use Rattle.aiger_file.proofs.Written.{text_read}
use Rattle.aiger_file.proofs.laws.written_text_is_read.Goals as goal

pub returns : goal.returns
returns c = text_read
