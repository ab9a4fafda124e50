use Rattle.std.proofs.Common.{◌≡◌}
use Rattle.frame_unroll.specs.Unrolled.{after_classes, from_reset}
use Rattle.cert_writer.proofs.Adding.{SoFar}
use Rattle.cert_writer.proofs.writing.push_members.Given as goal

abbrev pub invariant-loop-place : goal.invariant-loop-place
invariant-loop-place l = record {
  text : SoFar l.frames.pair l.frames.k l.frames.classes l.place l.initial.text.items l.text.items;
  last : l.work.last.frames ≡ after_classes l.frames.pair l.frames.k l.frames.classes;
  first : l.work.first.frames ≡ from_reset l.frames.pair 1;
}
