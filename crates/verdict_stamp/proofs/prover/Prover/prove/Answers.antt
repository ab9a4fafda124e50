use Rattle.std.proofs.Common.{IfSome, subst, sym}
use Rattle.circ_model.specs.Correspondence.{MaySplit}
use Rattle.verdict_stamp.specs.Versions.{Standing}
use Rattle.verdict_stamp.specs.Proofs.{IsSplitOf}
use Rattle.verdict_stamp.proofs.Proving.{split_of, splits}
use Rattle.verdict_stamp.proofs.prover.Prover.prove.Goals as goal

pub vector_under-requires-clause-may : goal.vector_under-requires-clause-may
vector_under-requires-clause-may c =
    let s = split_of c.args.self.now c.args.pair.member c.in_ok-row.field-0 c.in-Some.row c.in-Some.is c.in_ok-row.ensures.some in
    subst (λ (v : Standing). MaySplit v.pair v.k c.in-Some.row) (sym c.self.view_is) s.may

pub returns-in-Some-clause-proof : goal.returns-in-Some-clause-proof
returns-in-Some-clause-proof c =
    let s = split_of c.args.self.now c.args.pair.member c.in_ok-row.field-0 c.in-Some.row c.in-Some.is c.in_ok-row.ensures.some in
    splits c.self.inside.current.now c.args.self.now c.args.pair.member c.vector_under.result c.in-Some.row c.self.view_is c.vector_under.ensures s

pub vector_under-requires-in-Some-2-clause-may : goal.vector_under-requires-in-Some-2-clause-may
vector_under-requires-in-Some-2-clause-may c =
    let some = subst (λ (w : Standing). IfSome c.in_ok-row-2.field-0 (IsSplitOf w c.args.pair.member)) c.in_ok-row.ensures.kept c.in_ok-row-2.ensures.some in
    let s = split_of c.args.self.now c.args.pair.member c.in_ok-row-2.field-0 c.in-Some-2.row c.in-Some-2.is some in
    subst (λ (v : Standing). MaySplit v.pair v.k c.in-Some-2.row) (sym c.self.view_is) s.may

pub returns-in-Some-2-clause-proof : goal.returns-in-Some-2-clause-proof
returns-in-Some-2-clause-proof c =
    let some = subst (λ (w : Standing). IfSome c.in_ok-row-2.field-0 (IsSplitOf w c.args.pair.member)) c.in_ok-row.ensures.kept c.in_ok-row-2.ensures.some in
    let s = split_of c.args.self.now c.args.pair.member c.in_ok-row-2.field-0 c.in-Some-2.row c.in-Some-2.is some in
    splits c.self.inside.current.now c.args.self.now c.args.pair.member c.vector_under-in-Some-2.result c.in-Some-2.row c.self.view_is c.vector_under-in-Some-2.ensures s
