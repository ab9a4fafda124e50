use Rattle.std.proofs.Common.{refl, subst, arith}
use Rattle.std.specs.Prelude.{IfSome}
use Rattle.circ_model.specs.Meaning.{Pair}
use Rattle.induction_base.specs.Search.{HoldOutputs}
use Rattle.induction_base.proofs.Least.{left_asked, right_asked}
use Rattle.induction_base.proofs.difference.is_held.Goals as goal

pub paired-requires-clause-a : goal.paired-requires-clause-a
paired-requires-clause-a c =
    let pair : Pair = c.args.product.now in
    let hold : HoldOutputs pair c.in-Some.classes.now = subst (λ o. IfSome o (λ k. HoldOutputs pair k.now)) c.in-Some.is c.requires.held in
    let literal = left_asked pair pair c.output-a.result c.args.j refl c.output-a.ensures c.cells-cells.ensures.pair c.requires.output in
    omega (arith, literal, hold.places)

pub paired-requires-clause-b : goal.paired-requires-clause-b
paired-requires-clause-b c =
    let pair : Pair = c.args.product.now in
    let hold : HoldOutputs pair c.in-Some.classes.now = subst (λ o. IfSome o (λ k. HoldOutputs pair k.now)) c.in-Some.is c.requires.held in
    let literal = right_asked pair pair c.output-a.result c.args.j refl c.output-a.ensures c.cells-cells.ensures.pair c.requires.output in
    omega (arith, literal, hold.places)
