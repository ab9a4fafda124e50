use Rattle.batch_run.proofs.Written.{greater_status, one_answered}
use Rattle.batch_run.proofs.answering.write_answers.Goals as goal

pub loop-at-preserved : goal.loop-at-preserved
loop-at-preserved c = (
  greater_status c.loop-at.status c.in_ok-one.one c.max-status.result c.max-status.ensures c.loop-at.invariant.0 c.in_ok-one.ensures.status,
  λ file are. one_answered file c.args.settled.now.k c.loop-at.at c.args.list.now c.loop-at.text.items c.push_line.new.text.items c.loop-at.status c.in_ok-one.one c.max-status.result c.max-status.ensures (c.loop-at.invariant.1 file are) (c.in_ok-one.ensures.line file are),
)
