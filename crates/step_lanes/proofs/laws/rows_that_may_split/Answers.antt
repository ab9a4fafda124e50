use Rattle.step_lanes.proofs.GoingOn.{rows_go_on, later_rows_may_split}
use Rattle.step_lanes.proofs.laws.rows_that_may_split.Goals as goal

pub returns-clause-next : goal.returns-clause-next
returns-clause-next c = rows_go_on

pub returns-clause-later : goal.returns-clause-later
returns-clause-later c = later_rows_may_split
