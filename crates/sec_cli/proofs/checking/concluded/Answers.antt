use Rattle.std.proofs.Common.{sym, subst}
use Rattle.class_partition.specs.Classes.{AreOfGreatest}
use Rattle.sec_cli.proofs.checking.concluded.Goals as goal

pub answer_by-requires-clause-greatest : goal.answer_by-requires-clause-greatest
answer_by-requires-clause-greatest c = subst (AreOfGreatest c.args.product.now c.args.c.now.k) (sym c.classes.ensures.classes) c.requires.refined.outcome.greatest

pub answer_by-requires-clause-journal : goal.answer_by-requires-clause-journal
answer_by-requires-clause-journal c = (_, c.requires.refined)
