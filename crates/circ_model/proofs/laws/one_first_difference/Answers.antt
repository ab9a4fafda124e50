use Rattle.circ_model.proofs.First.{one_first, least_is_first}
use Rattle.circ_model.proofs.laws.one_first_difference.Goals as goal

pub returns-clause-one : goal.returns-clause-one
returns-clause-one c = one_first

pub returns-clause-least : goal.returns-clause-least
returns-clause-least c = least_is_first
