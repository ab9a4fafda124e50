use Rattle.used_pairs.specs.Logs.{AreMembers}
use Rattle.used_pairs.proofs.members.members_of.Given as goal

abbrev pub invariant-loop-i : goal.invariant-loop-i
invariant-loop-i l = AreMembers l.frames l.marks l.i l.places l.bits
