use Rattle.std.proofs.Common.{◌≡◌, false, true, arith}
use Rattle.circ_model.specs.Meaning.{places_of}
use Rattle.frame_graph.specs.Frames.{FrameOf, leaves_of}
use Rattle.frame_graph.proofs.Going.{grows_twice, shows_step}
use Rattle.frame_graph.proofs.Showing.{frame_after}
use Rattle.frame_graph.proofs.frames.push_step_frames.Goals as goal

pub loop-number-preserved : goal.loop-number-preserved
loop-number-preserved c =
    let was = c.loop-number.invariant in
    let says = c.in_ok-push_places.ensures in
    let f : FrameOf = record { leaves = leaves_of c.args.leaves.now; from_reset = false; number = c.loop-number.number } in
    record {
      size = omega (arith, frame_after c.loop-number.number (places_of c.args.leaves.now.product.now), says.size);
      on = grows_twice c.args.graph.now c.loop-number.graph c.push_places.new.graph was.on says.on;
      within = says.within;
      shows = shows_step f c.args.k c.args.classes.now c.loop-number.graph c.push_places.new.graph c.loop-number.literals.items c.push_places.new.literals.items (λ (is : false ≡ true). absurd (let g : ⊥ = cc in g)) c.loop-number-test.true says.on says.goes was.shows;
    }
