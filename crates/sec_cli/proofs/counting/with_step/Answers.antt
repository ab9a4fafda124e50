use Rattle.std.proofs.Common.{arith}
use Rattle.sec_cli.proofs.Tallied.{none_more}
use Rattle.sec_cli.proofs.counting.with_step.Goals as goal

pub returns-in-Offered : goal.returns-in-Offered
returns-in-Offered c = rw c.in-Offered.is (record { offers = omega arith; counted = omega arith; stale = omega arith; splits = omega arith; already = omega arith; back = omega arith })

pub returns-in-Counted : goal.returns-in-Counted
returns-in-Counted c = rw c.in-Counted.is (record { offers = omega arith; counted = omega arith; stale = omega arith; splits = omega arith; already = omega arith; back = omega arith })

pub returns-in-Stale : goal.returns-in-Stale
returns-in-Stale c = rw c.in-Stale.is (record { offers = omega arith; counted = omega arith; stale = omega arith; splits = omega arith; already = omega arith; back = omega arith })

pub returns-in-Split : goal.returns-in-Split
returns-in-Split c = rw c.in-Split.is (record { offers = omega arith; counted = omega arith; stale = omega arith; splits = omega arith; already = omega arith; back = omega arith })

pub returns-in-Already : goal.returns-in-Already
returns-in-Already c = rw c.in-Already.is (record { offers = omega arith; counted = omega arith; stale = omega arith; splits = omega arith; already = omega arith; back = omega arith })

pub returns-in-Back : goal.returns-in-Back
returns-in-Back c = rw c.in-Back.is (record { offers = omega arith; counted = omega arith; stale = omega arith; splits = omega arith; already = omega arith; back = omega arith })

pub returns-in-Idle : goal.returns-in-Idle
returns-in-Idle c = none_more c.args.stats c.args.step.now c.in-Idle.is

pub returns-in-Idle-2 : goal.returns-in-Idle-2
returns-in-Idle-2 c = none_more c.args.stats c.args.step.now c.in-Idle.is

pub returns-in-Idle-3 : goal.returns-in-Idle-3
returns-in-Idle-3 c = none_more c.args.stats c.args.step.now c.in-Idle.is
