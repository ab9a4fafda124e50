use Rattle.std.proofs.Common.{◌≡◌, ◌<◌, ◌≤◌, ◌+◌, ℕ, false, length}
use Rattle.std.specs.Prelude.{slice_index_or}
use Rattle.bit_rows.proofs.row.BitRow.copy_bits.Given as goal

abbrev pub invariant-loop-k : goal.invariant-loop-k
invariant-loop-k l = (length l.self ≡ length l.initial.self)
    × ((k : ℕ) → k < l.k → slice_index_or l.self (l.start + k) false ≡ slice_index_or l.from (l.at + k) false)
    × ((k : ℕ) → k < l.start → slice_index_or l.self k false ≡ slice_index_or l.initial.self k false)
    × ((k : ℕ) → l.start + l.count ≤ k → slice_index_or l.self k false ≡ slice_index_or l.initial.self k false)
