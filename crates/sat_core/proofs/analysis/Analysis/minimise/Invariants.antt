use Rattle.sat_core.specs.Analysis.{IsLowered}
use Rattle.sat_core.proofs.analysis.Analysis.minimise.Given as goal

abbrev pub invariant-down : goal.invariant-down
invariant-down l = IsLowered l.db l.trail.lits.items l.start l.first l.i l.self

abbrev pub decreases-down : goal.decreases-down
decreases-down l = l.i
