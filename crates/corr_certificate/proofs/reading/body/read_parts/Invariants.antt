use Rattle.std.proofs.Common.{◌≡◌, ◌≤◌, ◌+◌, ◌-◌, ◌==◌, length}
use Rattle.std.specs.List.{range_with_len}
use Rattle.circ_model.specs.Meaning.{places_of}
use Rattle.plain_text.specs.Pieces.{pieces, last_of}
use Rattle.frame_unroll.specs.Unrolled.{from_reset, after_classes}
use Rattle.corr_certificate.specs.declared.fault.Checked.{Checked}
use Rattle.corr_certificate.specs.Parts.{ReadsMembers}
use Rattle.corr_certificate.proofs.reading.body.read_parts.Given as goal

abbrev pub invariant-loop-member : goal.invariant-loop-member
invariant-loop-member l = record {
  base : l.frames.base ≡ from_reset l.claim.product.now l.claim.k;
  step : l.frames.step ≡ after_classes l.claim.product.now l.claim.k l.claim.classes.now;
  last : last_of 10 l.at.rest.now ≡ last_of 10 l.from.rest.now;
  lines : l.at.line + length l.at.rest.now ≤ l.from.line + length l.from.rest.now;
  ways : (r : Checked) → ReadsMembers l.claim.product.now l.claim.k l.claim.classes.now (length (last_of 10 l.from.rest.now) == 0) r (range_with_len l.member (places_of l.claim.product.now - l.member)) l.at.line (pieces 10 l.at.rest.now)
      → ReadsMembers l.claim.product.now l.claim.k l.claim.classes.now (length (last_of 10 l.from.rest.now) == 0) r (range_with_len 0 (places_of l.claim.product.now)) l.from.line (pieces 10 l.from.rest.now);
}
