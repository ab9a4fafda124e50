use Rattle.std.proofs.Common.{◌∙◌, length, ap}
use Rattle.class_partition.specs.Classes.{Classes}
use Rattle.plain_text.specs.Pieces.{pieces}
use Rattle.corr_certificate.proofs.Joining.{are_read}
use Rattle.corr_certificate.proofs.reading.certificate.read_classes.Goals as goal

pub into_classes-classes-requires : goal.into_classes-classes-requires
into_classes-classes-requires c =
    (are_read c.args.product.now c.in_ok-joining.joining 2 c.len.result c.in-Ok.at.line (pieces 10 c.args.bytes.now) (pieces 10 c.in-Ok.at.rest.now) c.read_lines.new.self.classes c.len.ensures.places c.in_ok-joining.ensures c.in-Ok.ensures.read).0

pub read_body-requires-clause-places : goal.read_body-requires-clause-places
read_body-requires-clause-places c =
    ap (λ (x : Classes). length x.least) c.into_classes-classes.ensures
    ∙ (are_read c.args.product.now c.in_ok-joining.joining 2 c.len.result c.in-Ok.at.line (pieces 10 c.args.bytes.now) (pieces 10 c.in-Ok.at.rest.now) c.read_lines.new.self.classes c.len.ensures.places c.in_ok-joining.ensures c.in-Ok.ensures.read).1
