use Rattle.sat_trail.proofs.Reasons.{reasons_imply}
use Rattle.sat_trail.proofs.laws.reasons_imply.Goals as goal

pub returns : goal.returns
returns c = reasons_imply
