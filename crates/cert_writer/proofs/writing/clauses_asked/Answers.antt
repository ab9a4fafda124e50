use Rattle.std.proofs.Common.{◌∙◌, ap, length}
use Rattle.cnf_store.specs.Clauses.{Formula}
use Rattle.frame_unroll.specs.Unrolled.{Unrolling, clauses_of}
use Rattle.cert_writer.proofs.Counting.{asked_alike}
use Rattle.cert_writer.proofs.writing.clauses_asked.Goals as goal

pub returns-clause-count : goal.returns-clause-count
returns-clause-count c =
    λ a b. c.len-count.ensures.value ∙ ap (λ (f : Formula). length f.clauses) c.cnf.ensures.clauses ∙ ap (λ (u : Unrolling). length (clauses_of u)) c.in_ok-ask.ensures.ok
    ∙ asked_alike c.args.frames.now _ _ a b c.args.first c.args.last
