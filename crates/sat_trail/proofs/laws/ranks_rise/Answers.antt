use Rattle.sat_trail.proofs.Ranks.{rank_below, rank_push, rank_replace}
use Rattle.sat_trail.proofs.laws.ranks_rise.Goals as goal

pub returns-clause-bounded : goal.returns-clause-bounded
returns-clause-bounded c = rank_below

pub returns-clause-more : goal.returns-clause-more
returns-clause-more c = rank_push

pub returns-clause-implied : goal.returns-clause-implied
returns-clause-implied c = rank_replace
