use Rattle.std.proofs.Common.{◌==◌, ℕ, ap, arith}
use Rattle.std.specs.Int.{w64}
use Rattle.std.proofs.lemmas.Nat.Bits.{bit_at-trailing_zeros}
use Rattle.step_lanes.proofs.rows.first_lane.Goals as goal

pub returns-else-lanes-eq0 : goal.returns-else-lanes-eq0
returns-else-lanes-eq0 c =
    let some = c.if-lanes-eq0.false in
    let first = bit_at-trailing_zeros w64 c.args.lanes (omega arith) c.ranges.lanes.fits in
    (first.0, ap (λ (n : ℕ). n == 1) first.1, λ i lt. ap (λ (n : ℕ). n == 1) (first.2 i lt))
