use Rattle.std.proofs.Common.{length}
use Rattle.tried_classes.proofs.Trying.{split_leaves}
use Rattle.tried_classes.proofs.plain.split_by_second.Goals as goal

pub returns-then-hold_in-clause-size : goal.returns-then-hold_in-clause-size
returns-then-hold_in-clause-size c = c.split_by.ensures.splits.partition.least_len

pub returns-then-hold_in-clause-keeps : goal.returns-then-hold_in-clause-keeps
returns-then-hold_in-clause-keeps c pair size may keeps =
    split_leaves pair (length c.args.classes.now.least) c.args.classes.now c.split_by.new.self c.args.row.now size c.split_by.ensures.splits (may (c.if-hold_in.ensures.0 cc)) keeps
