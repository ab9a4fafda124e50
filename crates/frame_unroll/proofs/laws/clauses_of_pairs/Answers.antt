use Rattle.frame_unroll.proofs.Pairs.{each_about}
use Rattle.frame_unroll.proofs.laws.clauses_of_pairs.Goals as goal

pub returns : goal.returns
returns c = each_about
