use Rattle.and_graph.proofs.Valuations.{has_one_valuation}
use Rattle.and_graph.proofs.laws.leaves_settle_all.Goals as goal

pub returns : goal.returns
returns c = has_one_valuation
