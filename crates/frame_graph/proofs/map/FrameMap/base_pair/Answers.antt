use Rattle.std.proofs.Common.{◌≡◌, ◌∙◌, ◌<◌, ◌+◌, ◌*◌, ℕ, ap, arith}
use Rattle.circ_model.specs.Meaning.{places_of}
use Rattle.frame_graph.specs.Maps.{Mapping}
use Rattle.frame_graph.proofs.Mapped.{ArePair, base_holds, pair_read, pair_within}
use Rattle.frame_graph.proofs.ReadPaths.{input_within}
use Rattle.frame_graph.proofs.map.FrameMap.base_pair.Goals as goal

are_pair : (c : goal.After-needed_literals) → ArePair c.args.self.now.leaves.pair c.args.classes.now c.args.self.now.literals c.args.frame c.args.member c.needed_literals.result.0 c.needed_literals.result.1
are_pair c =
    let m : Mapping = c.args.self.now in
    let says = c.needed_literals.ensures in
    let begin : c.args.frame * c.len.result ≡ c.args.frame * places_of m.leaves.pair = ap (λ (n : ℕ). c.args.frame * n) (c.len.ensures.places ∙ ap (λ (x : Mapping). places_of x.leaves.pair) c.self.view_is) in
    let place : c.args.frame * places_of m.leaves.pair + c.args.member < m.depth * places_of m.leaves.pair = input_within (places_of m.leaves.pair) c.args.frame c.args.member m.depth c.requires.frame c.requires.place in
    pair_read m.leaves.pair c.args.classes.now m.literals c.as_slice.result.now c.args.frame c.args.member c.needed_literals.result.0 c.needed_literals.result.1 (c.args.frame * c.len.result) c.requires.place says.lower
    (c.as_slice.ensures.value ∙ ap (λ (x : Mapping). x.literals) c.self.view_is) begin (omega (arith, c.requires.size)) says.least says.place says.value

pub returns-clause-within : goal.returns-clause-within
returns-clause-within c nodes is =
    let m : Mapping = c.args.self.now in
    pair_within nodes m.leaves.pair c.args.classes.now m.literals c.args.frame c.args.member c.needed_literals.result.0 c.needed_literals.result.1 (are_pair c) is

pub returns-clause-equal : goal.returns-clause-equal
returns-clause-equal c nodes graph is equal = base_holds nodes c.args.self.now c.args.classes.now c.args.frame c.args.member c.needed_literals.result.0 c.needed_literals.result.1 graph is (are_pair c) equal
