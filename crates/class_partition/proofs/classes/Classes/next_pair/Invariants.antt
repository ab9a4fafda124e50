use Rattle.std.proofs.Common.{◌≡◌, ◌<◌, ◌≤◌, ℕ}
use Rattle.class_partition.specs.Classes.{least_of}
use Rattle.class_partition.proofs.classes.Classes.next_pair.Given as goal

abbrev pub invariant-loop-member : goal.invariant-loop-member
invariant-loop-member l = (q : ℕ) → l.from ≤ q → q < l.member → least_of l.self q ≡ q
