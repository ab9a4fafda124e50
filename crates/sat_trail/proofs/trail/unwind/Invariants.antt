use Rattle.std.proofs.Common.{◌≡◌, ◌≤◌, length, take, vec_len, vec_capacity}
use Rattle.sat_trail.specs.Trail.{IsPlaced, AreValues}
use Rattle.sat_trail.proofs.trail.unwind.Given as goal

abbrev pub invariant-back : goal.invariant-back
invariant-back l = record {
  placed : IsPlaced (length l.initial.at.items) l.lits.items l.at.items;
  valued : AreValues l.lits.items l.at.items l.values.items;
  cut : l.cut ≤ length l.lits.items;
  lits : l.lits.items ≡ take (length l.lits.items) l.initial.lits.items;
  room : vec_capacity l.lits ≡ vec_capacity l.initial.lits;
}

abbrev pub decreases-back : goal.decreases-back
decreases-back l = vec_len l.lits
