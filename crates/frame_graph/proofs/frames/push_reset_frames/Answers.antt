use Rattle.std.proofs.Common.{true, refl}
use Rattle.frame_graph.specs.Frames.{FrameOf, leaves_of}
use Rattle.frame_graph.proofs.Going.{grows_twice, shows_run}
use Rattle.frame_graph.proofs.frames.push_reset_frames.Goals as goal

pub loop-number-preserved : goal.loop-number-preserved
loop-number-preserved c =
    let was = c.loop-number.invariant in
    let says = c.push_reset_frame.ensures in
    let f : FrameOf = record { leaves = leaves_of c.args.leaves.now; from_reset = true; number = c.loop-number.number } in
    record {
      size = c.in_ok-push_reset_frame.ensures.size;
      on = grows_twice c.args.graph.now c.loop-number.graph c.push_reset_frame.new.graph was.on says.on;
      within = says.within;
      shows = shows_run f c.args.k c.loop-number.graph c.push_reset_frame.new.graph c.loop-number.literals.items c.push_reset_frame.new.literals.items refl c.loop-number-test.true says.on says.goes was.shows;
    }
