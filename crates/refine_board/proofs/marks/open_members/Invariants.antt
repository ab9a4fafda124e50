use Rattle.std.proofs.Common.{◌≡◌, ◌≤◌, length, take}
use Rattle.std.specs.Prelude.{filter}
use Rattle.std.specs.List.{All, range_with_len}
use Rattle.class_partition.specs.Classes.{IsNeeded}
use Rattle.refine_board.specs.States.{is_open_at, most_open}
use Rattle.refine_board.proofs.marks.open_members.Given as goal

abbrev pub invariant-loop-p : goal.invariant-loop-p
invariant-loop-p l = (l.members.items ≡ take most_open (filter (is_open_at l.classes l.marks) (range_with_len 0 l.p))) × (length l.members.items ≤ most_open) × All (IsNeeded (length l.classes.least) l.classes) l.members.items
