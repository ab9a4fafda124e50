use Rattle.graph_solver.proofs.Clauses.{kept_stays}
use Rattle.graph_solver.proofs.laws.facts_stay.Goals as goal

pub returns : goal.returns
returns c = kept_stays
