use Rattle.std.proofs.Common.{◌∙◌, IfSome, subst, sym}
use Rattle.verdict_stamp.specs.Versions.{Standing}
use Rattle.verdict_stamp.specs.Proofs.{IsSplitOf}
use Rattle.verdict_stamp.proofs.Proving.{apart_by, apart_of, split_of}
use Rattle.verdict_stamp.proofs.prover.Prover.step_vector.Goals as goal

pub returns-in-Some-clause-some : goal.returns-in-Some-clause-some
returns-in-Some-clause-some c =
    apart_by c.passes_assuming.new.self c.args.self.now c.args.pair.member c.in_ok-vector.field-0 c.in-Some.vector (c.passes_assuming.ensures.kept ∙ c.passes_alone.ensures.kept) c.in-Some.is c.in_ok-vector.ensures.vector

pub vector_under-requires-clause-may : goal.vector_under-requires-clause-may
vector_under-requires-clause-may c =
    let some = subst (λ (w : Standing). IfSome c.in_ok-row.field-0 (IsSplitOf w c.args.pair.member)) (c.held.ensures.kept ∙ c.passes_assuming.ensures.kept ∙ c.passes_alone.ensures.kept ∙ sym c.self.view_is) c.in_ok-row.ensures.some in
    let s = split_of c.self.inside.current.now c.args.pair.member c.in_ok-row.field-0 c.in-Some-2.row c.in-Some-2.is some in
    s.may

pub returns-in-Some-2-clause-some : goal.returns-in-Some-2-clause-some
returns-in-Some-2-clause-some c =
    let v = c.self.inside.current.now in
    let some = subst (λ (w : Standing). IfSome c.in_ok-row.field-0 (IsSplitOf w c.args.pair.member)) (c.held.ensures.kept ∙ c.passes_assuming.ensures.kept ∙ c.passes_alone.ensures.kept ∙ sym c.self.view_is) c.in_ok-row.ensures.some in
    let s = split_of v c.args.pair.member c.in_ok-row.field-0 c.in-Some-2.row c.in-Some-2.is some in
    apart_of v c.args.self.now c.args.pair.member c.vector_under.result c.in-Some-2.row c.self.view_is c.vector_under.ensures s.apart s.may
