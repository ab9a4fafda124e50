use Rattle.std.proofs.Common.{◌≡◌, ℕ, length, get_or, drop, true, false}
use Rattle.std.specs.List.{Contains}
use Rattle.implied_clauses.proofs.implied.wipe.Given as goal

abbrev pub invariant-loop-l : goal.invariant-loop-l
invariant-loop-l l = record {
  size : length l.marks ≡ length l.fn.marks;
  left : (x : ℕ) → get_or l.marks x false ≡ true → Contains (drop l.l-index l.listed) x;
}
