use Rattle.std.proofs.Common.{subst}
use Rattle.verdict_stamp.specs.Versions.{IsVector}
use Rattle.verdict_stamp.proofs.vector.Vector.into_bits.Goals as goal

pub returns-clause-may : goal.returns-clause-may
returns-clause-may c = subst IsVector c.self.view_is c.self.invariant
