use Rattle.std.proofs.Common.{◌≡◌, ℤ, true, length, drop}
use Rattle.std.specs.List.{Contains}
use Rattle.log_check.specs.Marks.{mark_at}
use Rattle.log_check.proofs.line.unmark.Given as goal

abbrev pub invariant-loop-i : goal.invariant-loop-i
invariant-loop-i l = record {
  held : (x : ℤ) → mark_at l.marks x ≡ true → Contains (drop l.i l.assumed) x;
  size : length l.marks ≡ length l.initial.marks;
}
