use Rattle.std.proofs.Common.{◌<◌, sym, subst}
use Rattle.frame_graph.specs.Leaves.{AreLeaves}
use Rattle.frame_graph.specs.Maps.{Mapping}
use Rattle.frame_graph.proofs.Mapped.{step_mapped}
use Rattle.frame_graph.proofs.map.FrameMap.map_step.Goals as goal

pub returns-clause-map : goal.returns-clause-map
returns-clause-map c =
    let i = c.self.inside in
    let says = c.in_ok-push_step_frames.ensures in
    step_mapped c.args.graph.now c.push_step_frames.new.graph (record { pair = i.product.now; frames = i.frames; first = i.first }) c.args.k c.push_step_frames.new.literals.items c.args.classes.now
    (subst (λ (m : Mapping). AreLeaves c.args.graph.now m.leaves) (sym c.self.view_is) c.requires.leaves) (subst (λ (m : Mapping). c.args.k < m.leaves.frames) (sym c.self.view_is) c.requires.depth) says.on says.size says.within says.shows
