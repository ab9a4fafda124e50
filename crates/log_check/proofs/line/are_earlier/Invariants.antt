use Rattle.std.proofs.Common.{◌<◌, ◌≤◌, ◌+◌, take}
use Rattle.std.specs.List.{All}
use Rattle.log_check.proofs.line.are_earlier.Given as goal

abbrev pub invariant-loop-hint : goal.invariant-loop-hint
invariant-loop-hint l = All (λ h. (0 < h) × (h ≤ l.given + l.lines)) (take l.hint-index l.hints)
