use Rattle.std.proofs.Common.{sym, subst}
use Rattle.frame_graph.specs.Leaves.{AreLeaves}
use Rattle.frame_graph.specs.Maps.{Mapping}
use Rattle.frame_graph.proofs.Mapped.{reset_mapped}
use Rattle.frame_graph.proofs.map.FrameMap.map_reset.Goals as goal

pub returns-clause-map : goal.returns-clause-map
returns-clause-map c =
    let i = c.self.inside in
    let says = c.in_ok-push_reset_frames.ensures in
    reset_mapped c.args.graph.now c.push_reset_frames.new.graph (record { pair = i.product.now; frames = i.frames; first = i.first }) c.args.k c.push_reset_frames.new.literals.items
    (subst (λ (m : Mapping). AreLeaves c.args.graph.now m.leaves) (sym c.self.view_is) c.requires.leaves) says.on says.size says.within says.shows
