use Rattle.std.proofs.Common.{◌∙◌, ◌<◌, ◌+◌, ◌*◌, ◌/◌, ℕ, List, length, get_or, set, ap₂, sym, subst, arith}
use Rattle.circ_model.specs.Meaning.{literal_value, places_of}
use Rattle.class_partition.specs.Classes.{Classes, least_of}
use Rattle.frame_graph.specs.Inductions.{StepPasses}
use Rattle.frame_graph.specs.Maps.{IsStepMap, Mapping, induction_of}
use Rattle.frame_graph.proofs.Mapped.{passed}
use Rattle.frame_graph.proofs.map.FrameMap.pass.Goals as goal

pub returns-clause-map : goal.returns-clause-map
returns-clause-map c nodes is =
    let i = c.self.inside in
    let m : Mapping = record { leaves = record { pair = i.product.now; frames = i.frames; first = i.first }; depth = i.depth; literals = i.literals.items } in
    let classes : Classes = c.args.classes.now in
    let p : ℕ = c.args.member in
    let lit : ℕ = c.class_literal-lit.result in
    let back = sym c.self.view_is in
    let slice = c.as_slice.ensures.value in
    let wide = c.len.ensures.places in
    let lower = c.len-places.ensures.partition.lower p (omega (arith, c.len-places.ensures.places, c.requires.classes, c.requires.place)) in
    subst (λ (n : ℕ). IsStepMap nodes (record m { literals = set m.literals (m.depth * n + p) lit }) classes) (sym wide)
    (passed nodes m classes p lit (subst (λ (x : Mapping). p < places_of x.leaves.pair) back c.requires.place) lower
    (subst (λ (x : Mapping). x.depth * places_of x.leaves.pair + p < length x.literals) back c.requires.reached)
    (subst (λ (x : Mapping). StepPasses (induction_of x classes) p) back c.requires.passes)
    (c.class_literal-lit.ensures.place ∙ ap₂ (λ (xs : List ℕ) (n : ℕ). get_or xs (i.depth * n + least_of classes p) 0 / 2) slice wide)
    (λ v row hold at. c.class_literal-lit.ensures.value v row hold (ap₂ (λ (xs : List ℕ) (n : ℕ). literal_value v (get_or xs (i.depth * n + least_of classes p) 0)) slice wide ∙ at))
    (subst (λ (x : Mapping). IsStepMap nodes x classes) back is))
