use Rattle.std.proofs.Common.{◌<◌, take}
use Rattle.std.specs.List.{All}
use Rattle.cert_lemmas.proofs.lines.are_numbers.Given as goal

abbrev pub invariant-loop-hint : goal.invariant-loop-hint
invariant-loop-hint l = All (λ h. 0 < h) (take l.hint-index l.hints)
