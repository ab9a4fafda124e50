use Rattle.std.proofs.Common.{◌≡◌, ℕ, length, subst}
use Rattle.corr_certificate.specs.Parts.{base_formula}
use Rattle.cert_writer.specs.Writing.{Certified}
use Rattle.cert_writer.proofs.Counting.{trimmed_over}
use Rattle.cert_writer.proofs.writing.trim_base.Goals as goal

pub returns : goal.returns
returns c =
    let f = c.frames.inside in
    let s = c.args.frames.now in
    let place : ℕ = c.args.place in
    let count = subst (λ (t : Certified). f.base_clauses ≡ length (base_formula t.pair t.k t.classes place).clauses) c.frames.view_is (c.frames.invariant.base_count place) in
    trimmed_over (base_formula s.pair s.k s.classes place) f.base_clauses c.args.log c.trim.result count c.requires c.trim.ensures.accepted c.trim.ensures.trimmed
