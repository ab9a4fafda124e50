use Rattle.std.proofs.Common.{arith}
use Rattle.frame_graph.specs.Frames.{frame_of}
use Rattle.frame_graph.proofs.Going.{goes_twice_with, grows_twice}
use Rattle.frame_graph.proofs.places.push_places.Goals as goal

pub returns-in_err-push_place-clause-goes : goal.returns-in_err-push_place-clause-goes
returns-in_err-push_place-clause-goes c =
    goes_twice_with (frame_of c.args.frame.now) c.args.classes.now c.loop-p.graph c.push_place.new.graph c.args.literals.now.items c.loop-p.literals.items c.push_place.new.literals.items c.push_place.ensures.on c.loop-p.invariant.goes c.push_place.ensures.goes

pub loop-p-preserved : goal.loop-p-preserved
loop-p-preserved c =
    let was = c.loop-p.invariant in
    let says = c.in_ok-push_place.ensures in
    record {
      size = omega (arith, was.size, says.size);
      on = grows_twice c.args.graph.now c.loop-p.graph c.push_place.new.graph was.on says.on;
      within = says.within;
      goes = goes_twice_with (frame_of c.args.frame.now) c.args.classes.now c.loop-p.graph c.push_place.new.graph c.args.literals.now.items c.loop-p.literals.items c.push_place.new.literals.items says.on was.goes says.goes;
    }
