use Rattle.std.proofs.Common.{◌≡◌, ◌≤◌, ◌<◌, drop}
use Rattle.plain_text.specs.Words.{are_digits}
use Rattle.plain_text.specs.Numbers.{value_from}
use Rattle.plain_text.proofs.words.number_word.Given as goal

abbrev pub invariant-loop-digit : goal.invariant-loop-digit
invariant-loop-digit l = record {
  digits : are_digits (drop l.digit-index l.word) ≡ are_digits l.word;
  value : value_from l.value (drop l.digit-index l.word) ≡ value_from 0 l.word;
  some : 0 < l.digit-index → 0 < l.value;
  small : l.value ≤ l.limit;
}
