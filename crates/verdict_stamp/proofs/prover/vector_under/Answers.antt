use Rattle.verdict_stamp.proofs.Proving.{may_by}
use Rattle.verdict_stamp.proofs.prover.vector_under.Goals as goal

pub of-requires-clause-may : goal.of-requires-clause-may
of-requires-clause-may c = may_by c.args.version.now c.product.result.now c.k.result c.args.row c.product.ensures.pair c.k.ensures c.requires.may
