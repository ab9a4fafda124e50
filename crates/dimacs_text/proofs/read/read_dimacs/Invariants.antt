use Rattle.std.proofs.Common.{◌≡◌, ◌+◌, length}
use Rattle.plain_text.specs.Pieces.{pieces, last_of}
use Rattle.dimacs_text.specs.Texts.{header_from, text_of}
use Rattle.dimacs_text.proofs.read.read_dimacs.Given as goal

abbrev pub invariant-loop-line : goal.invariant-loop-line
invariant-loop-line l = record {
  due : header_from (length l.bytes) l.at (pieces 10 l.rest) (last_of 10 l.rest) ≡ text_of l.bytes;
  place : l.at + length l.rest ≡ length l.bytes;
}

abbrev pub decreases-loop-line : goal.decreases-loop-line
decreases-loop-line l = length l.rest
