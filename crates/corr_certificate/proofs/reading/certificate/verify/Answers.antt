use Rattle.std.proofs.Common.{subst}
use Rattle.corr_certificate.specs.declared.fault.Checked.{Checked}
use Rattle.corr_certificate.specs.Certificate.{IsChecked}
use Rattle.corr_certificate.proofs.Answering.{ok_map}
use Rattle.corr_certificate.proofs.Agreeing.{supported_agree}
use Rattle.corr_certificate.proofs.reading.certificate.verify.Goals as goal

pub returns-clause-agrees : goal.returns-clause-agrees
returns-clause-agrees c =
    ok_map _ _ c.read_lines.result (λ (r : Checked) h yes. supported_agree c.args.product.now c.args.bytes.now c.cells-cells.ensures.pair (subst (IsChecked c.args.product.now c.args.bytes.now) yes h)) c.read_lines.ensures
