use Rattle.and_graph.proofs.Valuations.{has_valuations}
use Rattle.and_graph.proofs.laws.leaves_are_free.Goals as goal

pub returns : goal.returns
returns c = has_valuations
