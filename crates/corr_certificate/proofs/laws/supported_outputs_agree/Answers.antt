use Rattle.corr_certificate.proofs.Agreeing.{supported_agree}
use Rattle.corr_certificate.proofs.laws.supported_outputs_agree.Goals as goal

pub returns : goal.returns
returns c = supported_agree
