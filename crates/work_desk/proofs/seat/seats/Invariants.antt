use Rattle.std.proofs.Common.{◌≡◌, ◌+◌, ◌*◌}
use Rattle.work_desk.specs.Seats.{AreSeats}
use Rattle.work_desk.proofs.seat.seats.Given as goal

abbrev pub invariant-loop-party : goal.invariant-loop-party
invariant-loop-party g l = (l.weights.parts + l.party ≡ l.workers) × (l.weights.amount ≡ 0) × (l.left.parts + l.party * 2 ≡ l.workers * 2) × (l.left.amount ≡ 0)
    × (l.ends.total ≡ 0) × (l.answered.total ≡ 0) × AreSeats l.party l.seats.items
