use Rattle.std.proofs.Common.{length, ◌-◌}
use Rattle.class_text.specs.Links.{AreLinked}
use Rattle.class_text.proofs.lines.next_members.Given as goal

abbrev pub invariant-loop-i : goal.invariant-loop-i
invariant-loop-i l = AreLinked (length l.classes.least) l.classes (length l.classes.least - l.i) l.next.items l.head.items
