use Rattle.std.proofs.Common.{◌∙◌, ℕ, ap}
use Rattle.class_partition.specs.Classes.{needed}
use Rattle.cert_writer.specs.Writing.{Certified}
use Rattle.cert_writer.proofs.Unseen.{step_derived}
use Rattle.cert_writer.proofs.writing.last_log.Goals as goal

pub trim_step-requires : goal.trim_step-requires
trim_step-requires c =
    let f = c.frames.inside in
    let s = c.args.frames.now in
    let place : ℕ = c.args.place in
    let literals = c.needed-pair.ensures ∙ ap (λ (t : Certified). needed t.classes place) c.frames.view_is in
    step_derived s.pair s.k f.k s.classes place c.args.work.now.last.frames c.needed-pair.result _ c.in-Some.log (ap (λ (t : Certified). t.k) c.frames.view_is) c.requires.last literals c.in-Some.is c.in_ok-log.ensures.log
