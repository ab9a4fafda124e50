use Rattle.std.proofs.Common.{◌≡◌, ◌<◌, ◌≤◌, ℕ, slice_index}
use Rattle.twin_places.proofs.twins.are_least.Given as goal

abbrev pub invariant-loop-place : goal.invariant-loop-place
invariant-loop-place l = record {
  lower : (p : ℕ) → p < l.place → slice_index l.least p ≤ p;
  fixed : (p : ℕ) → p < l.place → slice_index l.least (slice_index l.least p) ≡ slice_index l.least p;
}
