use Rattle.std.proofs.Common.{sym}
use Rattle.corr_certificate.proofs.Naming.{named_by}
use Rattle.corr_certificate.proofs.reading.names.named.Goals as goal

pub returns-clause-is : goal.returns-clause-is
returns-clause-is c =
    named_by c.args.product.now c.args.name.now c.in_ok-signal_of.field-0 c.place.result c.cells-cells.ensures.pair (sym c.in_ok-signal_of.ensures) c.place.ensures.within c.place.ensures.found c.place.ensures.none
