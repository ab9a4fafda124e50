use Rattle.log_check.proofs.Following.{last_decides}
use Rattle.log_check.proofs.whole_log.ends_empty.Goals as goal

pub returns : goal.returns
returns c = last_decides c.args.log.now c.clause.result.now c.len-count.result c.is_empty.result c.if-count-eq0.false c.len-count.ensures.value c.clause.ensures.value c.is_empty.ensures
