use Rattle.std.proofs.Common.{◌∙◌, subst, sym}
use Rattle.frame_unroll.specs.Unrolled.{Unrolling}
use Rattle.frame_questions.specs.Found.{ArePrepared}
use Rattle.frame_questions.proofs.found.Prepared.new.Goals as goal

pub invariant_of-result : goal.invariant_of-result
invariant_of-result c = subst (λ (u : Unrolling). ArePrepared u c.in_ok-ready.ready) (sym c.into_outline-frames.ensures) (record { asked = c.requires.none; are = c.in_ok-ready.ensures ∙ c.cnf.ensures.clauses })
