use Rattle.std.proofs.Common.{refl, subst, arith}
use Rattle.std.specs.Prelude.{Option}
use Rattle.circ_model.specs.Meaning.{Path}
use Rattle.product_machine.specs.States.{output_pair}
use Rattle.induction_base.specs.Search.{AgreesAt, IsApartOrNone}
use Rattle.induction_base.proofs.Least.{agrees_at, differs_at, one_more}
use Rattle.induction_base.proofs.difference.FrameSearch.in_frame.Goals as goal

pub returns-in-Some-clause-found : goal.returns-in-Some-clause-found
returns-in-Some-clause-found c =
    let pair = c.args.product.now in
    let j = c.loop-j.j in
    let lt = c.loop-j-test.true in
    let found = subst (λ (o : Option Path). IsApartOrNone pair c.args.t (output_pair pair j).0 (output_pair pair j).1 o) c.in-Some.is c.in_ok-run.ensures.found in
    record { frame = refl; run = differs_at pair c.args.t j c.in-Some.run' c.cells-cells.ensures.pair (omega (arith, c.outputs-j-end.ensures)) found; before = c.loop-j.invariant.agree }

pub loop-j-preserved : goal.loop-j-preserved
loop-j-preserved c =
    let pair = c.args.product.now in
    let j = c.loop-j.j in
    let lt = c.loop-j-test.true in
    let none = subst (λ (o : Option Path). IsApartOrNone pair c.args.t (output_pair pair j).0 (output_pair pair j).1 o) c.in_default.is c.in_ok-run.ensures.found in
    record {
      map = c.apart.ensures.map;
      whole = c.apart.ensures.whole;
      agree = one_more (AgreesAt pair c.args.t) j c.loop-j.invariant.agree (agrees_at pair c.args.t j c.cells-cells.ensures.pair (omega (arith, c.outputs-j-end.ensures)) none);
    }
