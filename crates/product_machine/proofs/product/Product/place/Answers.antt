use Rattle.std.proofs.Common.{◌∙◌, ◌+◌, length, ap, sym, subst, arith, Contains}
use Rattle.circ_model.specs.Netlist.{Netlist, IsSound, own}
use Rattle.product_machine.specs.Cells.{signals}
use Rattle.product_machine.proofs.Signalling.{signal_const, signal_input, holds_input}
use Rattle.product_machine.proofs.Placing.{left_within, left_found, left_none, right_within, right_found, right_none}
use Rattle.product_machine.proofs.product.Product.place.Goals as goal

pub own_place-requires-clause-sound : goal.own_place-requires-clause-sound
own_place-requires-clause-sound c = subst IsSound (sym c.left.ensures) c.cells-cells.ensures.pair.left

pub own_place-requires-in-Right-clause-sound : goal.own_place-requires-in-Right-clause-sound
own_place-requires-in-Right-clause-sound c = subst IsSound (sym c.right.ensures) c.cells-cells.ensures.pair.right

pub returns-in-Const-clause-found : goal.returns-in-Const-clause-found
returns-in-Const-clause-found c = signal_const c.args.self.now ∙ sym c.in-Const.is

pub returns-then-i-inputs-clause-found : goal.returns-then-i-inputs-clause-found
returns-then-i-inputs-clause-found c = signal_input c.args.self.now (1 + c.in-Input.i) c.in-Input.i (omega arith) (omega (arith, c.inputs.ensures)) ∙ sym c.in-Input.is

pub returns-else-i-inputs-clause-none : goal.returns-else-i-inputs-clause-none
returns-else-i-inputs-clause-none c = λ h.
    let lt = holds_input c.args.self.now c.in-Input.i (subst (Contains (signals c.args.self.now)) c.in-Input.is h) in
    omega (arith, c.inputs.ensures)

pub returns-in-Left-clause-within : goal.returns-in-Left-clause-within
returns-in-Left-clause-within c = left_within c.args.self.now c.left.result.now c.in-Left.v c.own_place.result c.left.ensures c.own_place.ensures.found

pub returns-in-Left-clause-found : goal.returns-in-Left-clause-found
returns-in-Left-clause-found c = left_found c.args.self.now c.left.result.now c.in-Left.v c.args.signal c.own_place.result c.left.ensures c.in-Left.is c.own_place.ensures.found

pub returns-in-Left-clause-none : goal.returns-in-Left-clause-none
returns-in-Left-clause-none c = left_none c.args.self.now c.left.result.now c.in-Left.v c.args.signal c.own_place.result c.left.ensures c.in-Left.is c.own_place.ensures.none

pub returns-in-Right-clause-within : goal.returns-in-Right-clause-within
returns-in-Right-clause-within c =
    right_within c.args.self.now c.right.result.now c.own_count.result c.in-Right.v c.own_place-in-Right.result c.cells-cells.ensures.pair c.right.ensures
    (c.own_count.ensures.count ∙ ap (λ (n : Netlist). length (own n)) c.left-in-Right.ensures) c.own_place-in-Right.ensures.found

pub returns-in-Right-clause-found : goal.returns-in-Right-clause-found
returns-in-Right-clause-found c =
    right_found c.args.self.now c.right.result.now c.own_count.result c.in-Right.v c.args.signal c.own_place-in-Right.result c.cells-cells.ensures.pair c.right.ensures
    (c.own_count.ensures.count ∙ ap (λ (n : Netlist). length (own n)) c.left-in-Right.ensures) c.in-Right.is c.own_place-in-Right.ensures.found

pub returns-in-Right-clause-none : goal.returns-in-Right-clause-none
returns-in-Right-clause-none c = right_none c.args.self.now c.right.result.now c.in-Right.v c.args.signal c.own_place-in-Right.result c.right.ensures c.in-Right.is c.own_place-in-Right.ensures.none
