use Rattle.induction_base.proofs.Fixing.{one_least}
use Rattle.induction_base.proofs.laws.one_least_run.Goals as goal

pub returns : goal.returns
returns c = one_least
