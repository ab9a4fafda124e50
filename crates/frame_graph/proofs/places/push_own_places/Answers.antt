use Rattle.std.proofs.Common.{arith}
use Rattle.frame_graph.specs.Frames.{frame_of}
use Rattle.frame_graph.proofs.Going.{goes_twice, grows_twice}
use Rattle.frame_graph.proofs.places.push_own_places.Goals as goal

pub returns-in_err-push_own-clause-goes : goal.returns-in_err-push_own-clause-goes
returns-in_err-push_own-clause-goes c =
    goes_twice (frame_of c.args.frame.now) c.loop-p.graph c.push_own.new.graph c.args.literals.now.items c.loop-p.literals.items c.push_own.new.literals.items c.push_own.ensures.on c.loop-p.invariant.goes c.push_own.ensures.goes

pub loop-p-preserved : goal.loop-p-preserved
loop-p-preserved c =
    let was = c.loop-p.invariant in
    let says = c.in_ok-push_own.ensures in
    record {
      size = omega (arith, was.size, says.size);
      part = omega (arith, was.size, says.size, c.requires.end);
      more = omega (arith, was.more, says.size);
      on = grows_twice c.args.graph.now c.loop-p.graph c.push_own.new.graph was.on says.on;
      within = says.within;
      goes = goes_twice (frame_of c.args.frame.now) c.loop-p.graph c.push_own.new.graph c.args.literals.now.items c.loop-p.literals.items c.push_own.new.literals.items says.on was.goes says.goes;
    }
