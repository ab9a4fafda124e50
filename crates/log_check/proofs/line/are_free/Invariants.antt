use Rattle.std.proofs.Common.{◌≡◌, false, take}
use Rattle.std.specs.List.{All}
use Rattle.log_check.specs.Marks.{mark_at}
use Rattle.log_check.proofs.line.are_free.Given as goal

abbrev pub invariant-loop-lit : goal.invariant-loop-lit
invariant-loop-lit l = All (λ x. mark_at l.marks x ≡ false) (take l.lit-index l.literals)
