use Rattle.std.proofs.Common.{◌≡◌, ◌≤◌, ◌+◌, length, []}
use Rattle.plain_text.specs.Pieces.{pieces, last_of}
use Rattle.sat_log.specs.Parts.{log_from}
use Rattle.sat_log.proofs.text.read_log.Given as goal

abbrev pub invariant-loop-text : goal.invariant-loop-text
invariant-loop-text l = record {
  due : log_from l.log l.line (pieces 10 l.rest) (last_of 10 l.rest) ≡ log_from [] 1 (pieces 10 l.bytes) (last_of 10 l.bytes);
  lines : l.line + length l.rest ≤ 1 + length l.bytes;
}

abbrev pub decreases-loop-text : goal.decreases-loop-text
decreases-loop-text l = length l.rest
