use Rattle.std.proofs.Common.{◌≡◌, length}
use Rattle.plain_text.specs.Pieces.{pieces, last_of}
use Rattle.corr_certificate.specs.ClassLines.{members_from}
use Rattle.corr_certificate.proofs.reading.class_lines.Joining.join_members.Given as goal

abbrev pub invariant-loop-word : goal.invariant-loop-word
invariant-loop-word l = record {
  due : members_from l.product l.first l.self (pieces 32 l.rest) (last_of 32 l.rest) ≡ members_from l.product l.first l.initial.self (pieces 32 l.text) (last_of 32 l.text);
  places : length l.self.classes.least ≡ length l.initial.self.classes.least;
}

abbrev pub decreases-loop-word : goal.decreases-loop-word
decreases-loop-word l = length l.rest
