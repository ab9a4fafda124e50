use Rattle.std.proofs.Common.{◌∙◌, ◌≤◌, ◌+◌, ◌*◌, false, length, ap, sym, subst}
use Rattle.circ_model.specs.Meaning.{places_of}
use Rattle.frame_graph.specs.Frames.{FrameOf, GoesOn}
use Rattle.frame_graph.specs.Maps.{IsStepMap, Mapping}
use Rattle.frame_graph.proofs.Mapped.{reached}
use Rattle.frame_graph.proofs.map.FrameMap.reach.Goals as goal

pub returns-clause-map : goal.returns-clause-map
returns-clause-map c classes is =
    let i = c.self.inside in
    let m : Mapping = record { leaves = record { pair = i.product.now; frames = i.frames; first = i.first }; depth = i.depth; literals = i.literals.items } in
    let says = c.push_own_places.ensures in
    let frame = c.frame_at-frame.ensures ∙ sym (ap (λ (x : Mapping). record { leaves = x.leaves; from_reset = false; number = i.depth }) c.self.view_is) in
    reached c.args.graph.now c.push_own_places.new.graph m c.push_own_places.new.literals.items classes says.on says.begun
    (subst (λ (f : FrameOf). length c.push_own_places.new.literals.items ≤ f.number * places_of f.leaves.pair + places_of f.leaves.pair) frame says.part) says.within
    (subst (λ (f : FrameOf). GoesOn f c.push_own_places.new.graph i.literals.items c.push_own_places.new.literals.items) frame says.goes)
    (subst (λ (x : Mapping). IsStepMap c.args.graph.now x classes) (sym c.self.view_is) is)
