use Rattle.std.proofs.Common.{◌∙◌, ℕ, subst}
use Rattle.class_partition.specs.Classes.{ArePartition}
use Rattle.cert_writer.proofs.WholeAgain.{written_supports}
use Rattle.cert_writer.proofs.writing.write_cert.Goals as goal

pub returns-clause-supported : goal.returns-clause-supported
returns-clause-supported c =
    written_supports c.args.product.now c.args.k c.args.classes.now c.in_ok-text.text.items c.cells-cells.ensures.pair c.requires.some c.requires.few
    (subst (λ (n : ℕ). ArePartition n c.args.classes.now) (c.len-places.ensures.places ∙ c.requires.places) c.len-places.ensures.partition) c.requires.outputs c.in_ok-text.ensures
