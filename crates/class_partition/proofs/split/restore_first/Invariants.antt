use Rattle.std.proofs.Common.{◌≡◌, ◌<◌, ◌≤◌, ℕ, length, min, slice_index}
use Rattle.class_partition.proofs.split.restore_first.Given as goal

abbrev pub invariant-loop-p : goal.invariant-loop-p
invariant-loop-p l =
    (length l.least.items ≡ length l.fn.least.items)
    × ((q : ℕ) → q < l.p → slice_index l.least.items q ≡ min (slice_index l.fn.least.items q) q)
    × ((q : ℕ) → l.p ≤ q → slice_index l.least.items q ≡ slice_index l.fn.least.items q)
