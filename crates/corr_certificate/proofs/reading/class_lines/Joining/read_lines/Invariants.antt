use Rattle.std.proofs.Common.{◌≡◌, ◌≤◌, ◌+◌, length}
use Rattle.circ_model.specs.Meaning.{places_of}
use Rattle.plain_text.specs.Pieces.{pieces, last_of}
use Rattle.corr_certificate.specs.ClassLines.{classes_from}
use Rattle.corr_certificate.proofs.reading.class_lines.Joining.read_lines.Given as goal

abbrev pub invariant-loop-text : goal.invariant-loop-text
invariant-loop-text l = record {
  due : classes_from l.product l.self l.line (pieces 10 l.rest) ≡ classes_from l.product l.initial.self l.first (pieces 10 l.bytes);
  last : last_of 10 l.rest ≡ last_of 10 l.bytes;
  lines : l.line + length l.rest ≤ l.first + length l.bytes;
  places : length l.self.classes.least ≡ places_of l.product;
}

abbrev pub decreases-loop-text : goal.decreases-loop-text
decreases-loop-text l = length l.rest
