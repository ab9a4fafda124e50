use Rattle.sat_guide.proofs.minimising.Minimiser.follows.Given as goal

abbrev pub decreases-search : goal.decreases-search
decreases-search l = l.left
