use Rattle.std.proofs.Common.{◌<◌, ℕ, subst, sym}
use Rattle.circ_model.specs.Meaning.{places_of}
use Rattle.sat_log.specs.Derivations.{IsAccepted}
use Rattle.corr_certificate.specs.Parts.{step_formula}
use Rattle.cert_writer.specs.Writing.{Certified}
use Rattle.cert_writer.proofs.Unseen.{step_accepted, no_step_path}
use Rattle.cert_writer.proofs.writing.step_log.Goals as goal

pub unreachable-requires : goal.unreachable-requires
unreachable-requires c =
    let f = c.frames.inside in
    let lt = subst (λ (s : Certified). c.args.place < places_of s.pair) (sym c.frames.view_is) c.requires.place in
    no_step_path f.product.now f.k f.classes.now c.args.place f.step c.needed-a.result c.in_ok-log.field-0 c.in-Path._seen c.frames.invariant.proved.stable lt c.frames.invariant.step_is c.needed-a.ensures c.in-Path.is c.in_ok-log.ensures

pub trim_step-requires : goal.trim_step-requires
trim_step-requires c =
    let f = c.frames.inside in
    let place : ℕ = c.args.place in
    subst (λ (s : Certified). IsAccepted (step_formula s.pair s.k s.classes place) c.in-None.log) c.frames.view_is
    (step_accepted f.product.now f.k f.classes.now place f.step c.needed-a.result c.in_ok-log.field-0 c.in-None.log c.frames.invariant.step_is c.needed-a.ensures c.in-None.is c.in_ok-log.ensures)
