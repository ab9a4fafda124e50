use Rattle.std.proofs.Common.{◌≡◌, ◌++◌, take, drop}
use Rattle.std.specs.List.{All}
use Rattle.sat_log.specs.Texts.{HasText, log_text}
use Rattle.sat_log.proofs.text.write_log.Given as goal

abbrev pub invariant-loop-i : goal.invariant-loop-i
invariant-loop-i l = record {
  text : l.into.items ++ log_text (drop l.i l.log) ≡ l.initial.into.items ++ log_text l.log;
  small : All HasText (take l.i l.log);
}
