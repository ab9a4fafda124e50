use Rattle.std.proofs.Common.{◌∙◌, ℕ, ap, sym}
use Rattle.class_partition.specs.Classes.{needed}
use Rattle.cert_writer.specs.Writing.{Certified}
use Rattle.cert_writer.proofs.Unseen.{base_derived}
use Rattle.cert_writer.proofs.writing.derived_reset.Goals as goal

pub trim_base-requires : goal.trim_base-requires
trim_base-requires c =
    let s = c.args.frames.now in
    let place : ℕ = c.args.place in
    let literals = c.needed-pair.ensures ∙ ap (λ (t : Certified). needed t.classes place) c.frames.view_is in
    let one = sym (ap (λ (t : Certified). t.k) c.frames.view_is) ∙ c.if-frames-eq1.true in
    base_derived s.pair s.k s.classes place c.args.first.now.frames c.needed-pair.result _ c.in-Some.log one c.requires.first literals c.in-Some.is c.in_ok-log.ensures.log
