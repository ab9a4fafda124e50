use Rattle.std.proofs.Common.{take}
use Rattle.sat_trail.proofs.Seeing.{SoFar}
use Rattle.sat_trail.proofs.trail.Trail.inspect.Given as goal

abbrev pub invariant-loop-lit : goal.invariant-loop-lit
invariant-loop-lit l = SoFar l.self.lits.items l.self.at.items l.clause (take l.lit-index l.clause) l.unit
