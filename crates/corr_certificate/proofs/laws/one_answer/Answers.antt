use Rattle.corr_certificate.proofs.Unique.{one_answer}
use Rattle.corr_certificate.proofs.laws.one_answer.Goals as goal

pub returns : goal.returns
returns c = one_answer
