use Rattle.std.proofs.Common.{◌≡◌, ◌∙◌, ◌*◌, ℕ, ap}
use Rattle.circ_model.specs.Meaning.{places_of}
use Rattle.frame_graph.specs.Maps.{Mapping}
use Rattle.frame_graph.proofs.Mapped.{ArePair, pair_read, pair_within, step_holds, step_holds_where}
use Rattle.frame_graph.proofs.map.FrameMap.step_pair.Goals as goal

are_pair : (c : goal.After-needed_literals) → ArePair c.args.self.now.leaves.pair c.args.classes.now c.args.self.now.literals c.args.self.now.depth c.args.member c.needed_literals.result.0 c.needed_literals.result.1
are_pair c =
    let m : Mapping = c.args.self.now in
    let says = c.needed_literals.ensures in
    let begin : c.self.inside.depth * c.len.result ≡ m.depth * places_of m.leaves.pair = ap (λ (n : ℕ). c.self.inside.depth * n) c.len.ensures.places ∙ ap (λ (x : Mapping). x.depth * places_of x.leaves.pair) c.self.view_is in
    pair_read m.leaves.pair c.args.classes.now m.literals c.as_slice.result.now m.depth c.args.member c.needed_literals.result.0 c.needed_literals.result.1 (c.self.inside.depth * c.len.result) c.requires.place says.lower
    (c.as_slice.ensures.value ∙ ap (λ (x : Mapping). x.literals) c.self.view_is) begin c.requires.reached says.least says.place says.value

pub returns-clause-within : goal.returns-clause-within
returns-clause-within c nodes is =
    let m : Mapping = c.args.self.now in
    pair_within nodes m.leaves.pair c.args.classes.now m.literals m.depth c.args.member c.needed_literals.result.0 c.needed_literals.result.1 (are_pair c) is

pub returns-clause-equal : goal.returns-clause-equal
returns-clause-equal c nodes graph is equal = step_holds nodes c.args.self.now c.args.classes.now c.args.member c.needed_literals.result.0 c.needed_literals.result.1 graph is (are_pair c) equal

pub returns-clause-equal_where : goal.returns-clause-equal_where
returns-clause-equal_where c nodes owed graph is all equal = step_holds_where nodes c.args.self.now c.args.classes.now owed c.args.member c.needed_literals.result.0 c.needed_literals.result.1 graph is all (are_pair c) equal
