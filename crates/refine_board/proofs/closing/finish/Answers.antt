use Rattle.std.proofs.Common.{arith}
use Rattle.circ_model.specs.Meaning.{places_of}
use Rattle.class_partition.proofs.ClassCount.{count_most}
use Rattle.refine_board.proofs.Alone.{closes_more, closes_settled}
use Rattle.refine_board.proofs.closing.finish.Goals as goal

pub returns-in_err-pass-clause-closes : goal.returns-in_err-pass-clause-closes
returns-in_err-pass-clause-closes g c = closes_more (places_of g.L.Run.pair) c.args.party c.args.board.now c.loop-round.board c.pass.new.board c.loop-round.invariant.closes c.pass.ensures.closes

pub returns-in_err-pass-clause-settled : goal.returns-in_err-pass-clause-settled
returns-in_err-pass-clause-settled g c =
    closes_settled (places_of g.L.Run.pair) c.args.party c.args.board.now c.pass.new.board (closes_more (places_of g.L.Run.pair) c.args.party c.args.board.now c.loop-round.board c.pass.new.board c.loop-round.invariant.closes c.pass.ensures.closes)

pub returns-then-not-branch-clause-closes : goal.returns-then-not-branch-clause-closes
returns-then-not-branch-clause-closes g c = closes_more (places_of g.L.Run.pair) c.args.party c.args.board.now c.loop-round.board c.pass.new.board c.loop-round.invariant.closes c.pass.ensures.closes

pub returns-then-not-branch-clause-settled : goal.returns-then-not-branch-clause-settled
returns-then-not-branch-clause-settled g c =
    closes_settled (places_of g.L.Run.pair) c.args.party c.args.board.now c.pass.new.board (closes_more (places_of g.L.Run.pair) c.args.party c.args.board.now c.loop-round.board c.pass.new.board c.loop-round.invariant.closes c.pass.ensures.closes)

pub loop-round-preserved : goal.loop-round-preserved
loop-round-preserved g c =
    let more = c.in_ok-pass.ensures.split c.if-not-branch.false in
    record {
      splits = omega (arith, more, c.loop-round.invariant.splits);
      closes = closes_more (places_of g.L.Run.pair) c.args.party c.args.board.now c.loop-round.board c.pass.new.board c.loop-round.invariant.closes c.pass.ensures.closes;
      ends = c.loop-round.invariant.ends;
    }

pub returns-clause-settled : goal.returns-clause-settled
returns-clause-settled g c = closes_settled (places_of g.L.Run.pair) c.args.party c.args.board.now c.loop-round.board c.loop-round.invariant.closes

pub returns-clause-counted : goal.returns-clause-counted
returns-clause-counted g c = λ m need. absurd (omega (arith, c.loop-round.invariant.splits, c.loop-round.invariant.ends, c.loop-round-test.false, count_most (places_of g.L.Run.pair) c.loop-round.board.state.classes))

pub returns-clause-greatest : goal.returns-clause-greatest
returns-clause-greatest g c = absurd (omega (arith, c.loop-round.invariant.splits, c.loop-round.invariant.ends, c.loop-round-test.false, count_most (places_of g.L.Run.pair) c.loop-round.board.state.classes))
