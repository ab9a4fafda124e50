use Rattle.frame_graph.proofs.Staying.{grown_is_later, later_leaves, later_maps, later_owed, merged_is_later}
use Rattle.frame_graph.proofs.laws.maps_stay.Goals as goal

pub returns-clause-grown : goal.returns-clause-grown
returns-clause-grown c = λ nodes after m goes. later_maps nodes after m (grown_is_later nodes after goes)

pub returns-clause-merged : goal.returns-clause-merged
returns-clause-merged c = λ nodes after m goes. later_maps nodes after m (merged_is_later nodes after goes)

pub returns-clause-owed_grown : goal.returns-clause-owed_grown
returns-clause-owed_grown c = λ nodes after m classes p goes. later_owed nodes after m classes p (grown_is_later nodes after goes)

pub returns-clause-owed_merged : goal.returns-clause-owed_merged
returns-clause-owed_merged c = λ nodes after m classes p goes. later_owed nodes after m classes p (merged_is_later nodes after goes)

pub returns-clause-leaves_grown : goal.returns-clause-leaves_grown
returns-clause-leaves_grown c = λ nodes after l goes. later_leaves nodes after l (grown_is_later nodes after goes)

pub returns-clause-leaves_merged : goal.returns-clause-leaves_merged
returns-clause-leaves_merged c = λ nodes after l goes. later_leaves nodes after l (merged_is_later nodes after goes)
