use Rattle.std.proofs.Common.{◌≡◌, ◌<◌, ◌^◌, ◌++◌, take, drop}
use Rattle.std.specs.List.{All}
use Rattle.sat_log.specs.Texts.{hints_text}
use Rattle.sat_log.proofs.write.push_hints.Given as goal

abbrev pub invariant-loop-hint : goal.invariant-loop-hint
invariant-loop-hint l = record {
  text : l.into.items ++ hints_text (drop l.hint-index l.hints) ≡ l.initial.into.items ++ hints_text l.hints;
  small : All (λ h. h < 2 ^ 64) (take l.hint-index l.hints);
}
