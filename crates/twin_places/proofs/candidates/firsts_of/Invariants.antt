use Rattle.std.proofs.Common.{◌≡◌, length}
use Rattle.twin_places.proofs.candidates.firsts_of.Given as goal

abbrev pub invariant-loop-place : goal.invariant-loop-place
invariant-loop-place l = length l.least.items ≡ l.place
