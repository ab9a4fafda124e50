use Rattle.aiger_text.proofs.Again.{body_again}
use Rattle.aiger_text.proofs.body.spelled_text_is_read.Goals as goal

pub returns : goal.returns
returns c = body_again
