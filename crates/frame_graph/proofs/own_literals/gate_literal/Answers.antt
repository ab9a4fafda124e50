use Rattle.std.proofs.Common.{◌+◌, ◌/◌, ℕ, List, sym, arith}
use Rattle.std.proofs.lemmas.Result.{IfOk-weaker}
use Rattle.circ_model.specs.Meaning.{Pair, row_at}
use Rattle.product_machine.specs.declared.cell.Cell.TheVariants.{Product}
use Rattle.frame_graph.specs.Frames.{frame_of}
use Rattle.frame_graph.proofs.Positions.{rests_at}
use Rattle.frame_graph.proofs.Rows.{gate_value}
use Rattle.frame_graph.proofs.Showing.{shown_at}
use Rattle.frame_graph.proofs.own_literals.gate_literal.Goals as goal

pub literal_from-a-requires : goal.literal_from-a-requires
literal_from-a-requires c =
    let rests = rests_at c.args.frame.now.product.now c.args.p (Product c.args.left c.args.right) c.cells-cells.ensures.pair c.requires.place (sym c.requires.gate) in
    omega (arith, rests.0, c.args.frame.now.begins, c.requires.literals)

pub literal_from-b-requires : goal.literal_from-b-requires
literal_from-b-requires c =
    let rests = rests_at c.args.frame.now.product.now c.args.p (Product c.args.left c.args.right) c.cells-cells.ensures.pair c.requires.place (sym c.requires.gate) in
    omega (arith, rests.1, c.args.frame.now.begins, c.requires.literals)

pub and-requires-clause-left : goal.and-requires-clause-left
and-requires-clause-left c =
    let rests = rests_at c.args.frame.now.product.now c.args.p (Product c.args.left c.args.right) c.cells-cells.ensures.pair c.requires.place (sym c.requires.gate) in
    let within = c.requires.within.at (c.args.frame.now.begin + c.args.left / 2) (omega (arith, rests.0, c.args.frame.now.begins, c.requires.literals)) in
    omega (arith, c.literal_from-a.ensures.place)

pub and-requires-clause-right : goal.and-requires-clause-right
and-requires-clause-right c =
    let rests = rests_at c.args.frame.now.product.now c.args.p (Product c.args.left c.args.right) c.cells-cells.ensures.pair c.requires.place (sym c.requires.gate) in
    let within = c.requires.within.at (c.args.frame.now.begin + c.args.right / 2) (omega (arith, rests.1, c.args.frame.now.begins, c.requires.literals)) in
    omega (arith, c.literal_from-b.ensures.place)

pub returns-clause-value : goal.returns-clause-value
returns-clause-value c =
    let f = frame_of c.args.frame.now in
    let pair : Pair = c.args.frame.now.product.now in
    let literals : List ℕ = c.args.literals.now in
    let begin : ℕ = c.args.frame.now.begin in
    let begins = c.args.frame.now.begins in
    let rests = rests_at pair c.args.p (Product c.args.left c.args.right) c.cells-cells.ensures.pair c.requires.place (sym c.requires.gate) in
    IfOk-weaker c.and.result _ _
    (λ lit says path v obeys is.
    gate_value f literals path v c.args.p c.literal_from-a.result c.literal_from-b.result c.args.left c.args.right lit c.cells-cells.ensures.pair c.requires.place c.requires.gate is (says v obeys)
    (c.literal_from-a.ensures.value v (row_at pair path f.number) (shown_at pair literals path v f.number (c.args.left / 2) (begin + c.args.left / 2) is.shows (omega (arith, rests.0, c.requires.place)) (omega (arith, begins)) (omega (arith, rests.0, begins, c.requires.literals))))
    (c.literal_from-b.ensures.value v (row_at pair path f.number) (shown_at pair literals path v f.number (c.args.right / 2) (begin + c.args.right / 2) is.shows (omega (arith, rests.1, c.requires.place)) (omega (arith, begins)) (omega (arith, rests.1, begins, c.requires.literals)))))
    c.and.ensures.value
