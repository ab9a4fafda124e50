use Rattle.std.proofs.Common.{◌≡◌, ◌<◌, ◌+◌, ℕ, length, get_or}
use Rattle.sim_words.proofs.kernel.copy_words.Given as goal

abbrev pub invariant-loop-k : goal.invariant-loop-k
invariant-loop-k l = (length l.to ≡ length l.initial.to) × ((k : ℕ) → k < l.k → get_or l.to (l.start + k) 0 ≡ get_or l.from (l.at + k) 0) × ((k : ℕ) → k < l.start → get_or l.to k 0 ≡ get_or l.initial.to k 0)
