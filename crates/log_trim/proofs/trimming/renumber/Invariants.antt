use Rattle.std.proofs.Common.{◌≡◌, ◌<◌, take, map}
use Rattle.std.specs.List.{All}
use Rattle.log_trim.specs.Trimming.{new_number}
use Rattle.log_trim.proofs.trimming.renumber.Given as goal

abbrev pub invariant-loop-hint : goal.invariant-loop-hint
invariant-loop-hint l = record {
  value : l.into.items ≡ map (new_number l.given l.before) (take l.hint-index l.hints);
  given : All (λ h. 0 < h) l.into.items;
}
