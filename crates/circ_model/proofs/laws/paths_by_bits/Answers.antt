use Rattle.circ_model.proofs.Enumerate.{spelled_is_path, is_spelled, is_numbered}
use Rattle.circ_model.proofs.laws.paths_by_bits.Goals as goal

pub returns-clause-spell : goal.returns-clause-spell
returns-clause-spell c = spelled_is_path

pub returns-clause-every : goal.returns-clause-every
returns-clause-every c = is_spelled

pub returns-clause-numbers : goal.returns-clause-numbers
returns-clause-numbers c = is_numbered
