use Rattle.std.proofs.Common.{◌≡◌, ◌<◌, length}
use Rattle.std.specs.List.{All}
use Rattle.plain_text.specs.Pieces.{pieces, last_of}
use Rattle.sat_log.specs.Texts.{hints_from}
use Rattle.sat_log.proofs.read.read_hints.Given as goal

abbrev pub invariant-loop-word : goal.invariant-loop-word
invariant-loop-word l = record {
  due : hints_from l.literals l.hints.items (pieces 32 l.rest) (last_of 32 l.rest) ≡ hints_from l.literals l.initial.hints.items (pieces 32 l.line) (last_of 32 l.line);
  given : All (λ h. 0 < h) l.hints.items;
}

abbrev pub decreases-loop-word : goal.decreases-loop-word
decreases-loop-word l = length l.rest
