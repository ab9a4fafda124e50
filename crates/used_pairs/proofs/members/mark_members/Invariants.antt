use Rattle.std.proofs.Common.{take}
use Rattle.used_pairs.specs.Logs.{AddsMembers}
use Rattle.used_pairs.proofs.members.mark_members.Given as goal

abbrev pub invariant-loop-i : goal.invariant-loop-i
invariant-loop-i l = AddsMembers (take l.i l.pairs) l.initial.bits l.bits
