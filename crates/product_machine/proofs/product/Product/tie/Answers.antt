use Rattle.std.proofs.Common.{◌≡◌, ◌∙◌, ◌+◌, ◌-◌, ℕ, length, refl, ap, sym, subst, arith}
use Rattle.circ_model.specs.Netlist.{Netlist, own}
use Rattle.circ_model.specs.Meaning.{Pair, right_from}
use Rattle.circ_model.proofs.Rows.{length_own, length_places}
use Rattle.product_machine.specs.Cells.{like_in}
use Rattle.product_machine.specs.States.{ArePartners}
use Rattle.product_machine.proofs.Follow.{length_cells}
use Rattle.product_machine.proofs.Partners.{tie_some, tie_none, like_read, place_within}
use Rattle.product_machine.proofs.Size.{few_places}
use Rattle.product_machine.proofs.product.Product.tie.Goals as goal

pub overflow_cast-lefts : goal.overflow_cast-lefts
overflow_cast-lefts c =
    let pair : Pair = c.args.self.now in
    omega (arith, few_places pair c.cells-cells.ensures.pair, length_places pair, ap length (c.latches.ensures ∙ ap (λ (net : Netlist). net.latches) c.left.ensures))

pub overflow_add-from : goal.overflow_add-from
overflow_add-from c = let pair : Pair = c.args.self.now in omega (arith, few_places pair c.cells-cells.ensures.pair, length_places pair, c.inputs-from.ensures)

pub overflow_add-from-2 : goal.overflow_add-from-2
overflow_add-from-2 c = let pair : Pair = c.args.self.now in omega (arith, few_places pair c.cells-cells.ensures.pair, length_places pair, c.inputs-from.ensures, c.own_count.ensures.few)

pub overflow_add-from-3 : goal.overflow_add-from-3
overflow_add-from-3 c =
    let pair : Pair = c.args.self.now in
    omega (arith, few_places pair c.cells-cells.ensures.pair, length_places pair, c.inputs-from.ensures, c.own_count.ensures.few, c.requires)

pub bounds-cells-from : goal.bounds-cells-from
bounds-cells-from c =
    let pair : Pair = c.args.self.now in
    let lefts = ap length (c.latches.ensures ∙ ap (λ (net : Netlist). net.latches) c.left.ensures) in
    let count = c.own_count.ensures.count ∙ ap (λ (net : Netlist). length (own net)) c.left-2.ensures in
    let right = c.if-i-lefts.false in
    omega (arith, ap length c.cells-cells.ensures.cells, length_cells pair, length_places pair, length_own pair.left, c.inputs-from.ensures, lefts, count, c.requires)

place_is : (pair : Pair) (given count lefts i p : ℕ) → length pair.right.inputs ≡ given → count ≡ length (own pair.left) → lefts ≡ length pair.left.latches → p ≡ 1 + given + count + (i - lefts) → p ≡ right_from pair + (i - length pair.left.latches)
place_is pair given count lefts i p a b d e = omega (arith, a, b, d, e)

pub overflow_sub-result : goal.overflow_sub-result
overflow_sub-result c =
    let pair : Pair = c.args.self.now in
    let lefts = ap length (c.latches.ensures ∙ ap (λ (net : Netlist). net.latches) c.left.ensures) in
    let count = c.own_count.ensures.count ∙ ap (λ (net : Netlist). length (own net)) c.left-2.ensures in
    let right = c.if-i-lefts.false in
    let is = c.cells-cells.ensures.pair in
    let p : ℕ = 1 + c.inputs-from.result + c.own_count.result + (c.args.i - length c.latches.result.now) in
    let at = place_is pair c.inputs-from.result c.own_count.result (length c.latches.result.now) c.args.i p (sym is.inputs ∙ sym c.inputs-from.ensures) count lefts refl in
    let tie = tie_some pair c.args.i p c.in-Some.place is (omega (arith, lefts)) c.requires
    at (like_read pair c.cells-cells.result.now p c.index-cells-from.result c.cells-cells.ensures.cells (place_within pair c.cells-cells.result.now c.args.i p is c.cells-cells.ensures.cells (omega (arith, lefts)) c.requires at) ∙ ap like_in (sym c.index-cells-from.is) ∙ sym c.place_like.ensures ∙ c.in-Some.is) in
    omega (arith, tie.from, c.inputs-from.ensures)

pub returns-in-None-clause-none : goal.returns-in-None-clause-none
returns-in-None-clause-none c =
    let pair : Pair = c.args.self.now in
    let lefts = ap length (c.latches.ensures ∙ ap (λ (net : Netlist). net.latches) c.left.ensures) in
    let count = c.own_count.ensures.count ∙ ap (λ (net : Netlist). length (own net)) c.left-2.ensures in
    let is = c.cells-cells.ensures.pair in
    let right = c.if-i-lefts.false in
    let p : ℕ = 1 + c.inputs-from.result + c.own_count.result + (c.args.i - length c.latches.result.now) in
    let at = place_is pair c.inputs-from.result c.own_count.result (length c.latches.result.now) c.args.i p (sym is.inputs ∙ sym c.inputs-from.ensures) count lefts refl in
    tie_none pair c.args.i p is at (like_read pair c.cells-cells.result.now p c.index-cells-from.result c.cells-cells.ensures.cells (place_within pair c.cells-cells.result.now c.args.i p is c.cells-cells.ensures.cells (omega (arith, lefts)) c.requires at) ∙ ap like_in (sym c.index-cells-from.is) ∙ sym c.place_like.ensures ∙ c.in-None.is)

pub returns-in-Some-clause-some : goal.returns-in-Some-clause-some
returns-in-Some-clause-some c =
    let pair : Pair = c.args.self.now in
    let lefts = ap length (c.latches.ensures ∙ ap (λ (net : Netlist). net.latches) c.left.ensures) in
    let count = c.own_count.ensures.count ∙ ap (λ (net : Netlist). length (own net)) c.left-2.ensures in
    let right = c.if-i-lefts.false in
    let is = c.cells-cells.ensures.pair in
    let p : ℕ = 1 + c.inputs-from.result + c.own_count.result + (c.args.i - length c.latches.result.now) in
    let at = place_is pair c.inputs-from.result c.own_count.result (length c.latches.result.now) c.args.i p (sym is.inputs ∙ sym c.inputs-from.ensures) count lefts refl in
    let tie = tie_some pair c.args.i p c.in-Some.place is (omega (arith, lefts)) c.requires
    at (like_read pair c.cells-cells.result.now p c.index-cells-from.result c.cells-cells.ensures.cells (place_within pair c.cells-cells.result.now c.args.i p is c.cells-cells.ensures.cells (omega (arith, lefts)) c.requires at) ∙ ap like_in (sym c.index-cells-from.is) ∙ sym c.place_like.ensures ∙ c.in-Some.is) in
    subst (λ (n : ℕ). ArePartners pair c.args.i (c.in-Some.place - n)) (omega (arith, c.inputs-from.ensures)) tie.are
