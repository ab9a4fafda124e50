use Rattle.std.proofs.Common.{arith, refl}
use Rattle.split_workers.proofs.report.with_step.Goals as goal

pub returns-in-Offered : goal.returns-in-Offered
returns-in-Offered c = rw c.in-Offered.is (record { worker = refl; offers = omega arith; idle = omega arith; done = omega arith; counted = omega arith; stale = omega arith; splits = omega arith; already = omega arith; foreign = omega arith; back = omega arith })

pub returns-in-Idle : goal.returns-in-Idle
returns-in-Idle c = rw c.in-Idle.is (record { worker = refl; offers = omega arith; idle = omega arith; done = omega arith; counted = omega arith; stale = omega arith; splits = omega arith; already = omega arith; foreign = omega arith; back = omega arith })

pub returns-in-Done : goal.returns-in-Done
returns-in-Done c = rw c.in-Done.is (record { worker = refl; offers = omega arith; idle = omega arith; done = omega arith; counted = omega arith; stale = omega arith; splits = omega arith; already = omega arith; foreign = omega arith; back = omega arith })

pub returns-in-Counted : goal.returns-in-Counted
returns-in-Counted c = rw c.in-Counted.is (record { worker = refl; offers = omega arith; idle = omega arith; done = omega arith; counted = omega arith; stale = omega arith; splits = omega arith; already = omega arith; foreign = omega arith; back = omega arith })

pub returns-in-Stale : goal.returns-in-Stale
returns-in-Stale c = rw c.in-Stale.is (record { worker = refl; offers = omega arith; idle = omega arith; done = omega arith; counted = omega arith; stale = omega arith; splits = omega arith; already = omega arith; foreign = omega arith; back = omega arith })

pub returns-in-Split : goal.returns-in-Split
returns-in-Split c = rw c.in-Split.is (record { worker = refl; offers = omega arith; idle = omega arith; done = omega arith; counted = omega arith; stale = omega arith; splits = omega arith; already = omega arith; foreign = omega arith; back = omega arith })

pub returns-in-Already : goal.returns-in-Already
returns-in-Already c = rw c.in-Already.is (record { worker = refl; offers = omega arith; idle = omega arith; done = omega arith; counted = omega arith; stale = omega arith; splits = omega arith; already = omega arith; foreign = omega arith; back = omega arith })

pub returns-in-Foreign : goal.returns-in-Foreign
returns-in-Foreign c = rw c.in-Foreign.is (record { worker = refl; offers = omega arith; idle = omega arith; done = omega arith; counted = omega arith; stale = omega arith; splits = omega arith; already = omega arith; foreign = omega arith; back = omega arith })

pub returns-in-Back : goal.returns-in-Back
returns-in-Back c = rw c.in-Back.is (record { worker = refl; offers = omega arith; idle = omega arith; done = omega arith; counted = omega arith; stale = omega arith; splits = omega arith; already = omega arith; foreign = omega arith; back = omega arith })
