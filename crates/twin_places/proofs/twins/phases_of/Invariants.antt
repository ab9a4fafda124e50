use Rattle.std.proofs.Common.{◌≡◌, length}
use Rattle.twin_places.proofs.twins.phases_of.Given as goal

abbrev pub invariant-loop-place : goal.invariant-loop-place
invariant-loop-place l = length l.phases ≡ length l.classes.least
