use Rattle.pair_list.proofs.Faults.{one_only}
use Rattle.pair_list.proofs.Found.{some_reading}
use Rattle.pair_list.proofs.laws.one_reading.Goals as goal

pub returns-clause-some : goal.returns-clause-some
returns-clause-some c = some_reading

pub returns-clause-one : goal.returns-clause-one
returns-clause-one c = one_only
