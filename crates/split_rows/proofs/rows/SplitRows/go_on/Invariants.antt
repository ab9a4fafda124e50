use Rattle.std.proofs.Common.{◌≡◌, ◌+◌, length}
use Rattle.split_rows.proofs.rows.SplitRows.go_on.Given as goal

abbrev pub invariant-loop : goal.invariant-loop
invariant-loop l = (l.self ≡ l.initial.self) × (l.lanes.pair ≡ l.initial.lanes.pair) × (l.lanes.k ≡ l.initial.lanes.k) × (l.lanes.classes ≡ l.initial.lanes.classes) × (l.lanes.frames ≡ l.initial.lanes.frames + l.counter) × (length l.inputs ≡ length l.initial.inputs)
