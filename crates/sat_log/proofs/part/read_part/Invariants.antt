use Rattle.std.proofs.Common.{◌≡◌, ◌≤◌, ◌+◌, length}
use Rattle.plain_text.specs.Pieces.{pieces, last_of}
use Rattle.sat_log.specs.Parts.{part_from}
use Rattle.sat_log.proofs.part.read_part.Given as goal

abbrev pub invariant-loop-text : goal.invariant-loop-text
invariant-loop-text l = record {
  due : part_from l.log l.line (pieces 10 l.rest) ≡ part_from l.initial.log l.first (pieces 10 l.bytes);
  last : last_of 10 l.rest ≡ last_of 10 l.bytes;
  lines : l.line + length l.rest ≤ l.first + length l.bytes;
}

abbrev pub decreases-loop-text : goal.decreases-loop-text
decreases-loop-text l = length l.rest
