use Rattle.std.proofs.Common.{length}
use Rattle.tried_classes.proofs.Trying.{split_leaves}
use Rattle.tried_classes.proofs.plain.split_by_first.Goals as goal

pub returns-then-starts_run-clause-size : goal.returns-then-starts_run-clause-size
returns-then-starts_run-clause-size c = c.split_by.ensures.splits.partition.least_len

pub returns-then-starts_run-clause-keeps : goal.returns-then-starts_run-clause-keeps
returns-then-starts_run-clause-keeps c size may keeps =
    split_leaves c.args.product.now (length c.args.classes.now.least) c.args.classes.now c.split_by.new.self c.args.row.now size c.split_by.ensures.splits (may (c.if-starts_run.ensures.0 cc)) keeps
