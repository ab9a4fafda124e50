use Rattle.std.proofs.Common.{◌≡◌, ◌+◌, length}
use Rattle.cnf_store.specs.Clauses.{AreLiterals}
use Rattle.plain_text.specs.Pieces.{pieces, last_of}
use Rattle.dimacs_text.specs.Texts.{state, words_from}
use Rattle.dimacs_text.proofs.body.read_line.Given as goal

abbrev pub invariant-loop-word : goal.invariant-loop-word
invariant-loop-word l = record {
  due : words_from l.at (state l.formula l.literals.items) (pieces 32 l.rest) (last_of 32 l.rest) ≡ words_from l.first (state l.initial.formula l.initial.literals.items) (pieces 32 l.line) (last_of 32 l.line);
  place : l.at + length l.rest ≡ l.first + length l.line;
  literals : AreLiterals l.formula.vars l.literals.items;
}

abbrev pub decreases-loop-word : goal.decreases-loop-word
decreases-loop-word l = length l.rest
