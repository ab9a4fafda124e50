use Rattle.std.proofs.Common.{◌≡◌, ◌≢◌, ◌≤◌, ◌<◌, ◌/◌, ℕ, length, get_or, ◌⊎◌}
use Rattle.sat_trail.proofs.trail.Trail.top.Given as goal

abbrev pub invariant-loop-lit : goal.invariant-loop-lit
invariant-loop-lit l = record {
  most : (k : ℕ) → k < l.lit-index → (get_or l.clause k 0 ≡ l.skip) ⊎ (get_or l.self.at.items (get_or l.clause k 0 / 2) 0 ≤ l.most);
  met : (l.most ≡ 0) ⊎ ((k : ℕ) × (k < length l.clause) × (get_or l.clause k 0 ≢ l.skip) × (get_or l.self.at.items (get_or l.clause k 0 / 2) 0 ≡ l.most));
}
