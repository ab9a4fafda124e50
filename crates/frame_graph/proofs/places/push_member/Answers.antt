use Rattle.std.proofs.Common.{◌≡◌, ◌∙◌, ◌+◌, ◌*◌, ℕ, List, length, ap, sym, subst, arith}
use Rattle.circ_model.specs.Meaning.{Pair, places_of, row_at}
use Rattle.class_partition.specs.Classes.{least_of}
use Rattle.frame_graph.specs.Frames.{GoesOnWith, frame_of}
use Rattle.frame_graph.proofs.Going.{goes_on_with_added}
use Rattle.frame_graph.proofs.Showing.{shown_at}
use Rattle.frame_graph.proofs.places.push_member.Goals as goal

pub returns-clause-goes : goal.returns-clause-goes
returns-clause-goes c nodes =
    let f = frame_of c.args.frame.now in
    let pair : Pair = c.args.frame.now.product.now in
    let slice : List ℕ = c.as_slice.result.now in
    let least : ℕ = least_of c.args.classes.now c.args.p in
    let begins = c.args.frame.now.begins in
    let size : length slice ≡ f.number * places_of pair + c.args.p = ap length c.as_slice.ensures.value ∙ c.requires.literals in
    subst (GoesOnWith f c.args.classes.now nodes c.args.literals.now.items) (sym c.in_ok-push.ensures.items)
    (goes_on_with_added f c.args.classes.now nodes c.args.literals.now.items slice c.args.p c.class_literal-lit.result c.as_slice.ensures.value c.requires.place c.requires.literals
    (λ path v hold is. c.class_literal-lit.ensures.value v (row_at pair path f.number) (hold c.args.p c.requires.place)
    (shown_at pair slice path v f.number least (c.args.frame.now.begin + least) is.shows (omega (arith, c.requires.member, c.requires.place)) (omega (arith, begins)) (omega (arith, c.requires.member, begins)))))
