use Rattle.std.proofs.Common.{◌≡◌, ◌++◌, length, take, map, neg_ℤ}
use Rattle.log_check.specs.Marks.{AreMarks}
use Rattle.log_check.proofs.line.deny.Given as goal

abbrev pub invariant-loop-i : goal.invariant-loop-i
invariant-loop-i l = record {
  items : l.assumed.items ≡ l.initial.assumed.items ++ map neg_ℤ (take l.i l.literals);
  marks : AreMarks l.marks l.assumed.items;
  size : length l.marks ≡ length l.initial.marks;
}
