use Rattle.std.proofs.Common.{◌≡◌, ◌∙◌, ◌<◌, ◌-◌, ℕ, length, get_or, ap, sym, subst, arith}
use Rattle.circ_model.specs.declared.netlist.Signal.TheVariants.{Left, Right}
use Rattle.circ_model.specs.Netlist.{Netlist, variables, own}
use Rattle.circ_model.specs.Meaning.{Pair}
use Rattle.circ_model.proofs.Rows.{length_own, length_row_left}
use Rattle.product_machine.specs.Signals.{signal_at}
use Rattle.product_machine.proofs.Size.{few_places}
use Rattle.product_machine.proofs.Signalling.{signal_const, signal_input, signal_left, signal_right}
use Rattle.product_machine.proofs.Placing.{IsRightIndex, right_index}
use Rattle.product_machine.proofs.product.Product.signal.Goals as goal

pub overflow_add-given : goal.overflow_add-given
overflow_add-given c =
    let pair : Pair = c.args.self.now in
    let l = c.own_count-own_left.ensures.count ∙ ap (λ (net : Netlist). length (own net)) c.left.ensures in
    omega (arith, c.inputs-given.ensures, few_places pair c.cells-cells.ensures.pair, length_row_left pair)

pub variable_at-requires-else-place-given-2 : goal.variable_at-requires-else-place-given-2
variable_at-requires-else-place-given-2 c =
    let own_left : ℕ = c.own_count-own_left.result in
    let at : IsRightIndex c.args.self.now c.args.place (c.args.place - own_left) = right_index c.args.self.now c.args.place own_left c.cells-cells.ensures.pair (c.own_count-own_left.ensures.count ∙ ap (λ (net : Netlist). length (own net)) c.left.ensures) c.requires (omega (arith, c.inputs-given.ensures)) in
    subst (λ (net : Netlist). c.args.place - own_left < length (variables net)) (sym c.right.ensures) at.within

pub returns-then-place-eq0 : goal.returns-then-place-eq0
returns-then-place-eq0 c =
    let e : c.args.place ≡ 0 = omega arith in
    sym (ap (signal_at c.args.self.now) e ∙ signal_const c.args.self.now)

pub returns-then-place-given : goal.returns-then-place-given
returns-then-place-given c = sym (signal_input c.args.self.now c.args.place (c.args.place - 1) (omega arith) (omega (arith, c.inputs-given.ensures)))

pub returns-then-place-given-2 : goal.returns-then-place-given-2
returns-then-place-given-2 c =
    let pair : Pair = c.args.self.now in
    let i = c.inputs-given.ensures in
    let l = c.own_count-own_left.ensures.count ∙ ap (λ (net : Netlist). length (own net)) c.left.ensures in
    ap Left (c.variable_at.ensures ∙ ap (λ (net : Netlist). get_or (variables net) c.args.place 0) c.left-then-place-given-2.ensures)
    ∙ sym (signal_left pair c.args.place (omega arith) (omega (arith, length_row_left pair, length_own pair.left)))

pub returns-else-place-given-2 : goal.returns-else-place-given-2
returns-else-place-given-2 c =
    let pair : Pair = c.args.self.now in
    let own_left : ℕ = c.own_count-own_left.result in
    let at : IsRightIndex pair c.args.place (c.args.place - own_left) = right_index pair c.args.place own_left c.cells-cells.ensures.pair (c.own_count-own_left.ensures.count ∙ ap (λ (net : Netlist). length (own net)) c.left.ensures) c.requires (omega (arith, c.inputs-given.ensures)) in
    ap Right (c.variable_at-else-place-given-2.ensures ∙ ap (λ (net : Netlist). get_or (variables net) (c.args.place - own_left) 0) c.right.ensures)
    ∙ sym (signal_right pair c.args.place (c.args.place - own_left) c.cells-cells.ensures.pair at.is at.from at.within)
