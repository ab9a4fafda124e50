use Rattle.corr_certificate.proofs.Greatest.{greatest_stable}
use Rattle.corr_certificate.proofs.laws.greatest_classes_are_stable.Goals as goal

pub returns : goal.returns
returns c = greatest_stable
