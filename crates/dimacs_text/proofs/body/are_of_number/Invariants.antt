use Rattle.std.proofs.Common.{◌≡◌, drop}
use Rattle.std.specs.List.{list_all}
use Rattle.dimacs_text.specs.Words.{is_of_number}
use Rattle.dimacs_text.proofs.body.are_of_number.Given as goal

abbrev pub invariant-loop-b : goal.invariant-loop-b
invariant-loop-b l = list_all is_of_number (drop l.b-index l.word) ≡ list_all is_of_number l.word
