use Rattle.corr_certificate.proofs.Greatest.{greatest_stable}
use Rattle.sec_cli.proofs.checking.cert_of.Goals as goal

pub write_cert-requires-clause-stable : goal.write_cert-requires-clause-stable
write_cert-requires-clause-stable c = greatest_stable c.args.product.now c.args.c.now.k c.args.classes.now c.requires.partition c.requires.greatest
