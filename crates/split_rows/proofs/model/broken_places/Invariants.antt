use Rattle.std.proofs.Common.{◌≡◌, length}
use Rattle.split_rows.specs.Rows.{AllBroken}
use Rattle.split_rows.proofs.model.broken_places.Given as goal

abbrev pub invariant-loop-t : goal.invariant-loop-t
invariant-loop-t l = (l.lanes.pair ≡ l.initial.lanes.pair) × (l.lanes.frames ≡ l.t) × AllBroken l.t (length l.classes.least) l.broken.items
