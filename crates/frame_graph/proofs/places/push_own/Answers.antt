use Rattle.std.proofs.Common.{sym, subst}
use Rattle.frame_graph.specs.Frames.{GoesOn, frame_of}
use Rattle.frame_graph.proofs.Going.{goes_on_added}
use Rattle.frame_graph.proofs.places.push_own.Goals as goal

pub returns-clause-goes : goal.returns-clause-goes
returns-clause-goes c =
    let f = frame_of c.args.frame.now in
    subst (GoesOn f c.own_literal.new.graph c.args.literals.now.items) (sym c.in_ok-push.ensures.items)
    (goes_on_added f c.own_literal.new.graph c.args.literals.now.items c.as_slice.result.now c.args.p c.in_ok-lit.lit c.as_slice.ensures.value c.requires.place c.requires.literals c.in_ok-lit.ensures.value)
