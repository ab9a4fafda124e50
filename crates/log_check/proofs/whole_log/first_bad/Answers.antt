use Rattle.std.proofs.Common.{◌∙◌}
use Rattle.log_check.proofs.Following.{all_follow}
use Rattle.log_check.proofs.whole_log.first_bad.Goals as goal

pub returns-then-ends_empty : goal.returns-then-ends_empty
returns-then-ends_empty c = record {
  follow = all_follow c.args.formula.now.vars c.args.formula.now.clauses c.args.log.now c.in_ok-count.count (c.if-count-len.true ∙ c.len.ensures.value) c.in_ok-count.ensures.ok;
  empty = c.if-ends_empty.ensures;
}
