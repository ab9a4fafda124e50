use Rattle.std.proofs.Common.{◌≡◌, ◌∙◌, ◌*◌, ℕ, ap}
use Rattle.circ_model.specs.Meaning.{places_of}
use Rattle.frame_graph.specs.Maps.{Mapping}
use Rattle.frame_graph.proofs.InFrame.{reset_within, stands_in}
use Rattle.frame_graph.proofs.map.FrameMap.reset_literal.Goals as goal

begins : (c : goal.After-literal_from) → c.args.frame * c.len.result ≡ c.args.frame * places_of c.args.self.now.leaves.pair
begins c = ap (λ (n : ℕ). c.args.frame * n) (c.len.ensures.places ∙ ap (λ (x : Mapping). places_of x.leaves.pair) c.self.view_is)

pub returns-clause-within : goal.returns-clause-within
returns-clause-within c nodes is =
    reset_within nodes c.args.self.now c.as_slice.result.now c.args.frame c.args.lit c.literal_from.result (c.args.frame * c.len.result) c.requires.literal c.requires.frame c.requires.size
    (c.as_slice.ensures.value ∙ ap (λ (x : Mapping). x.literals) c.self.view_is) (begins c) c.literal_from.ensures.place is

pub returns-clause-value : goal.returns-clause-value
returns-clause-value c run v shows =
    stands_in c.args.self.now c.as_slice.result.now c.args.frame c.args.lit c.literal_from.result (c.args.frame * c.len.result) c.requires.literal c.requires.frame c.requires.size
    (c.as_slice.ensures.value ∙ ap (λ (x : Mapping). x.literals) c.self.view_is) (begins c) c.literal_from.ensures.value run v shows
