use Rattle.std.proofs.Common.{◌∙◌, IfOk, subst}
use Rattle.used_pairs.specs.Latches.{AreByNext}
use Rattle.verdict_stamp.specs.Proofs.{RestsOnLess}
use Rattle.verdict_stamp.specs.Versions.{Standing}
use Rattle.verdict_stamp.proofs.Proving.{apart_by}
use Rattle.verdict_stamp.proofs.prover.Prover.settle.Goals as goal

pub returns-in-Some-clause-settled : goal.returns-in-Some-clause-settled
returns-in-Some-clause-settled c =
    apart_by c.self.inside.current.now c.args.self.now c.args.pair.member c.in_ok-vector.field-0 c.in-Some.vector c.self.view_is c.in-Some.is c.in_ok-vector.ensures.vector

pub returns-in-Some-2-clause-settled : goal.returns-in-Some-2-clause-settled
returns-in-Some-2-clause-settled c =
    apart_by c.held.new.self c.args.self.now c.args.pair.member c.in_ok-vector-2.field-0 c.in-Some-2.vector (c.held.ensures.kept ∙ c.self.view_is) c.in-Some-2.is c.in_ok-vector-2.ensures.some

pub returns-clause-latches : goal.returns-clause-latches
returns-clause-latches c =
    subst (λ (v : Standing). IfOk c.settle_step.result (λ proof. AreByNext v.pair v.classes c.args.pair → RestsOnLess proof)) (c.base_vector.ensures.kept ∙ c.held.ensures.kept ∙ c.self.view_is) c.settle_step.ensures.latches
