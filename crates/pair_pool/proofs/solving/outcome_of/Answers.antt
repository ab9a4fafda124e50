use Rattle.std.proofs.Common.{sym, subst}
use Rattle.class_partition.specs.Classes.{AreOfGreatest}
use Rattle.pair_pool.proofs.solving.outcome_of.Goals as goal

pub outcome_by-requires-clause-greatest : goal.outcome_by-requires-clause-greatest
outcome_by-requires-clause-greatest g c = subst (AreOfGreatest c.args.product.now c.args.k) (sym c.classes.ensures.classes) c.in_ok-version.ensures.refined.outcome.greatest
