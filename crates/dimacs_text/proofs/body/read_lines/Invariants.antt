use Rattle.std.proofs.Common.{◌≡◌, ◌+◌, length}
use Rattle.cnf_store.specs.Clauses.{AreLiterals}
use Rattle.plain_text.specs.Pieces.{pieces, last_of}
use Rattle.dimacs_text.specs.Texts.{state, lines_from}
use Rattle.dimacs_text.proofs.body.read_lines.Given as goal

abbrev pub invariant-loop-line : goal.invariant-loop-line
invariant-loop-line l = record {
  due : lines_from l.at (state l.formula l.literals.items) (pieces 10 l.rest) (last_of 10 l.rest) ≡ lines_from l.first (state l.initial.formula l.initial.literals.items) (pieces 10 l.bytes) (last_of 10 l.bytes);
  place : l.at + length l.rest ≡ l.first + length l.bytes;
  literals : AreLiterals l.formula.vars l.literals.items;
}

abbrev pub decreases-loop-line : goal.decreases-loop-line
decreases-loop-line l = length l.rest
