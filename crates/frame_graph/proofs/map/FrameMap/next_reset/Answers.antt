use Rattle.std.proofs.Common.{sym, subst}
use Rattle.frame_graph.specs.Maps.{IsResetMap, Mapping}
use Rattle.frame_graph.proofs.Mapped.{next_mapped}
use Rattle.frame_graph.proofs.map.FrameMap.next_reset.Goals as goal

pub returns-clause-map : goal.returns-clause-map
returns-clause-map c =
    let i = c.self.inside in
    let m : Mapping = record { leaves = record { pair = i.product.now; frames = i.frames; first = i.first }; depth = i.depth; literals = i.literals.items } in
    let says = c.in_ok-push_reset_frame.ensures in
    next_mapped c.args.graph.now c.push_reset_frame.new.graph m c.push_reset_frame.new.literals.items (subst (λ (x : Mapping). IsResetMap c.args.graph.now x) (sym c.self.view_is) c.requires.map) says.on says.size says.within says.goes
