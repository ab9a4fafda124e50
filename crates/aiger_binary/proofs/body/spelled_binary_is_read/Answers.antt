use Rattle.aiger_binary.proofs.Again.{binary_again}
use Rattle.aiger_binary.proofs.body.spelled_binary_is_read.Goals as goal

pub returns : goal.returns
returns c = binary_again
