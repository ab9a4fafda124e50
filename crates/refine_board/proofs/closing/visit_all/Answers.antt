use Rattle.std.proofs.Common.{◌≡◌, ◌∙◌, false, arith}
use Rattle.circ_model.specs.Meaning.{places_of}
use Rattle.refine_board.proofs.Alone.{closes_more}
use Rattle.refine_board.proofs.closing.visit_all.Goals as goal

pub returns-in_err-visit-clause-closes : goal.returns-in_err-visit-clause-closes
returns-in_err-visit-clause-closes g c = closes_more (places_of g.L.Run.pair) c.args.party c.args.board.now c.loop-p.board c.visit.new.board c.loop-p.invariant.closes c.visit.ensures.closes

pub returns-then-branch-clause-closes : goal.returns-then-branch-clause-closes
returns-then-branch-clause-closes g c = closes_more (places_of g.L.Run.pair) c.args.party c.args.board.now c.loop-p.board c.visit.new.board c.loop-p.invariant.closes c.visit.ensures.closes

pub loop-p-preserved : goal.loop-p-preserved
loop-p-preserved g c =
    let r = c.in_ok-visit.ensures.counted c.if-branch.false in
    record {
      below = r.1;
      same = r.0 ∙ c.loop-p.invariant.same;
      closes = closes_more (places_of g.L.Run.pair) c.args.party c.args.board.now c.loop-p.board c.visit.new.board c.loop-p.invariant.closes c.visit.ensures.closes;
      prover = c.visit.ensures.kept ∙ c.loop-p.invariant.prover;
      ends = c.loop-p.invariant.ends;
    }

pub returns-clause-counted : goal.returns-clause-counted
returns-clause-counted g c = λ (e : false ≡ false) m need. c.loop-p.invariant.below m (omega (arith, need.0, c.loop-p.invariant.ends, c.loop-p-test.false)) need
