use Rattle.std.proofs.Common.{◌≡◌, ◌∙◌, ap, subst}
use Rattle.std.specs.Prelude.{IfOk, IfErr}
use Rattle.cnf_store.specs.Clauses.{Formula}
use Rattle.frame_unroll.specs.Unrolled.{formula_of, asks, asking}
use Rattle.plain_text.specs.Pieces.{pieces}
use Rattle.corr_certificate.specs.Parts.{IsOn, IsFault}
use Rattle.corr_certificate.proofs.reading.parts.read_asked.Goals as goal

pub returns-clause-on : goal.returns-clause-on
returns-clause-on c =
    let e : c.cnf.result.now ≡ formula_of (asking c.args.frames.now (asks c.args.part.now.a c.args.part.now.b c.args.part.now.first c.args.part.now.last)) = c.cnf.ensures.clauses ∙ ap formula_of c.in_ok-ask.ensures.ok in
    subst (λ (f : Formula). IfOk c.in_ok-read.read (λ r. IsOn c.args.product.now c.args.part.now.keyword.now c.args.part.now.member f c.args.at.line (pieces 10 c.args.at.rest.now) r.line (pieces 10 r.rest.now))) e c.in_ok-read.ensures.on

pub returns-clause-fault : goal.returns-clause-fault
returns-clause-fault c =
    let e : c.cnf.result.now ≡ formula_of (asking c.args.frames.now (asks c.args.part.now.a c.args.part.now.b c.args.part.now.first c.args.part.now.last)) = c.cnf.ensures.clauses ∙ ap formula_of c.in_ok-ask.ensures.ok in
    subst (λ (g : Formula). IfErr c.in_ok-read.read (λ f. IsFault c.args.product.now c.args.part.now.keyword.now c.args.part.now.member g c.args.at.line (pieces 10 c.args.at.rest.now) f.kind f.line)) e c.in_ok-read.ensures.fault
