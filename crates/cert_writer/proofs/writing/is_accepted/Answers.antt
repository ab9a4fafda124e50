use Rattle.std.proofs.Common.{◌≡◌, ◌∙◌, ap, subst}
use Rattle.std.specs.Prelude.{Bool}
use Rattle.cnf_store.specs.Clauses.{Formula}
use Rattle.sat_log.specs.Derivations.{IsAccepted}
use Rattle.log_check.specs.FirstBad.{Decides}
use Rattle.frame_unroll.specs.Unrolled.{formula_of, asks, asking}
use Rattle.cert_writer.proofs.writing.is_accepted.Goals as goal

pub returns-clause-log : goal.returns-clause-log
returns-clause-log c =
    λ good.
    let e : c.cnf.result.now ≡ formula_of (asking c.args.frames.now (asks c.args.a c.args.b c.args.t c.args.t)) = c.cnf.ensures.clauses ∙ ap formula_of c.in_ok-ask.ensures.ok in
    subst (λ (f : Formula). IsAccepted f c.args.log.now) e (subst (λ (y : Bool). Decides y (IsAccepted c.cnf.result.now c.args.log.now)) good c.in_ok-good.ensures.exact)
