use Rattle.frame_graph.proofs.Staying.{both_halves}
use Rattle.frame_graph.proofs.laws.both_halves.Goals as goal

pub returns : goal.returns
returns c = both_halves
