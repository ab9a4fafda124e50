use Rattle.std.proofs.Common.{◌≡◌, ◌∙◌, ◌<◌, ◌+◌, List, Bool, false, length, ap, sym, subst, arith}
use Rattle.circ_model.specs.Meaning.{Pair, IsSoundPair, places_of}
use Rattle.product_machine.specs.Cells.{cells}
use Rattle.product_machine.proofs.OneRow.{inside, IsWritten, IsFreeCell, begun, written_set, written_free, written_all, low_bit, product_bit}
use Rattle.product_machine.proofs.Follow.{length_cells}
use Rattle.product_machine.proofs.Size.{few_places}
use Rattle.product_machine.proofs.TableRead.{cell_read, operands}
use Rattle.product_machine.proofs.product.Product.fill.Goals.{in-Low, in-Product, in-Given, in-Held}
use Rattle.product_machine.proofs.product.Product.fill.Goals as goal

pub overflow_cast-n : goal.overflow_cast-n
overflow_cast-n c =
    let is : IsSoundPair c.args.self.now = subst IsSoundPair c.self.view_is c.self.invariant.0 in
    let tab : c.self.inside.table.items ≡ cells c.args.self.now = c.self.invariant.1 ∙ ap cells c.self.view_is in
    omega (arith, ap length tab, length_cells c.args.self.now, few_places c.args.self.now is)

pub loop-p-init : goal.loop-p-init
loop-p-init c = begun c.args.self.now c.args.state.now c.args.inputs.now c.args.values.now c.requires.size c.requires.ready

pub both-bit-requires-clause-left : goal.both-bit-requires-clause-left
both-bit-requires-clause-left c =
    let is : IsSoundPair c.args.self.now = subst IsSoundPair c.self.view_is c.self.invariant.0 in
    let tab : c.self.inside.table.items ≡ cells c.args.self.now = c.self.invariant.1 ∙ ap cells c.self.view_is in
    let lt : c.loop-p.p < places_of c.args.self.now = omega (arith, ap length tab, length_cells c.args.self.now) in
    let cell = cell_read c.self.inside.table.items (cells c.args.self.now) c.loop-p.p c.index.result.now tab (inside c.args.self.now c.loop-p.p lt) c.index.ensures ∙ c.in-Product.is in
    (operands c.args.self.now c.loop-p.p c.in-Product.left c.in-Product.right (length c.loop-p.values) is lt c.loop-p.invariant.size cell).0

pub both-bit-requires-clause-right : goal.both-bit-requires-clause-right
both-bit-requires-clause-right c =
    let is : IsSoundPair c.args.self.now = subst IsSoundPair c.self.view_is c.self.invariant.0 in
    let tab : c.self.inside.table.items ≡ cells c.args.self.now = c.self.invariant.1 ∙ ap cells c.self.view_is in
    let lt : c.loop-p.p < places_of c.args.self.now = omega (arith, ap length tab, length_cells c.args.self.now) in
    let cell = cell_read c.self.inside.table.items (cells c.args.self.now) c.loop-p.p c.index.result.now tab (inside c.args.self.now c.loop-p.p lt) c.index.ensures ∙ c.in-Product.is in
    (operands c.args.self.now c.loop-p.p c.in-Product.left c.in-Product.right (length c.loop-p.values) is lt c.loop-p.invariant.size cell).1

pub loop-p-preserved : goal.loop-p-preserved
loop-p-preserved c =
    let pair : Pair = c.args.self.now in
    let is : IsSoundPair pair = subst IsSoundPair c.self.view_is c.self.invariant.0 in
    let tab : c.self.inside.table.items ≡ cells pair = c.self.invariant.1 ∙ ap cells c.self.view_is in
    let lt : c.loop-p.p < places_of pair = omega (arith, ap length tab, length_cells pair) in
    let at = cell_read c.self.inside.table.items (cells pair) c.loop-p.p c.index.result.now tab (inside c.args.self.now c.loop-p.p lt) c.index.ensures in
    let to = λ (vs : List Bool). IsWritten pair c.args.state.now c.args.inputs.now (c.loop-p.p + 1) vs in
    elim c.match-index.branch [
      | in-Low w ↦ subst to (sym (w.values-is ∙ w.set.ensures)) (written_set pair c.args.state.now c.args.inputs.now c.loop-p.values c.loop-p.p false lt c.loop-p.invariant (low_bit pair c.args.state.now c.args.inputs.now c.loop-p.p is c.requires.frame lt (at ∙ w.in-Low.is)))
      | in-Product w ↦ subst to (sym (w.values-is ∙ w.set-in-Product.ensures)) (written_set pair c.args.state.now c.args.inputs.now c.loop-p.values c.loop-p.p w.both-bit.result lt c.loop-p.invariant
          (w.both-bit.ensures ∙ product_bit pair c.args.state.now c.args.inputs.now c.loop-p.values c.loop-p.p w.in-Product.left w.in-Product.right is c.requires.frame lt (at ∙ w.in-Product.is) c.loop-p.invariant.done))
      | in-Given w ↦ subst to (sym w.values-is) (written_free pair c.args.state.now c.args.inputs.now c.loop-p.values c.loop-p.p lt c.loop-p.invariant (subst IsFreeCell (sym (at ∙ w.in-Given.is)) tt))
      | in-Held w ↦ subst to (sym w.values-is) (written_free pair c.args.state.now c.args.inputs.now c.loop-p.values c.loop-p.p lt c.loop-p.invariant (subst IsFreeCell (sym (at ∙ w.in-Held.is)) tt))
    ]

pub returns : goal.returns
returns c =
    let tab : c.self.inside.table.items ≡ cells c.args.self.now = c.self.invariant.1 ∙ ap cells c.self.view_is in
    written_all c.args.self.now c.args.state.now c.args.inputs.now c.loop-p.values c.loop-p.p (omega (arith, ap length tab, length_cells c.args.self.now)) c.loop-p.invariant

pub set-requires : goal.set-requires
set-requires c =
    let tab : c.self.inside.table.items ≡ cells c.args.self.now = c.self.invariant.1 ∙ ap cells c.self.view_is in
    omega (arith, ap length tab, length_cells c.args.self.now, c.loop-p.invariant.size)

pub set-requires-in-Product : goal.set-requires-in-Product
set-requires-in-Product c =
    let tab : c.self.inside.table.items ≡ cells c.args.self.now = c.self.invariant.1 ∙ ap cells c.self.view_is in
    omega (arith, ap length tab, length_cells c.args.self.now, c.loop-p.invariant.size)
