use Rattle.std.proofs.Common.{◌≡◌, ◌∙◌, ◌<◌, ◌+◌, List, ℕ, length, ap, sym, subst, refl, arith}
use Rattle.std.proofs.lemmas.List.{get_or-replicate}
use Rattle.circ_model.specs.Meaning.{Pair, IsSoundPair, places_of}
use Rattle.product_machine.specs.declared.cell.Cell.{Cell}
use Rattle.product_machine.specs.declared.cell.Cell.TheVariants.{Low, Given, Held, Product}
use Rattle.product_machine.specs.Cells.{cells}
use Rattle.product_machine.proofs.Follow.{length_cells}
use Rattle.product_machine.proofs.OneRow.{inside, IsFreeCell}
use Rattle.product_machine.proofs.TableRead.{operands}
use Rattle.sim_words.specs.Lanes.{lane_bit}
use Rattle.sim_words.specs.Wide.{stripe}
use Rattle.sim_words.proofs.Frames.{cell_is, fill_all}
use Rattle.sim_words.proofs.Stripes.{AreFilled, filled_begun, filled_low, filled_gate, filled_free}
use Rattle.sim_words.proofs.wide_kernel.fill.Goals.{in-Low, in-Product, in-Given, in-Held}
use Rattle.sim_words.proofs.wide_kernel.fill.Goals as goal

pub write_eight-requires-clause-place : goal.write_eight-requires-clause-place
write_eight-requires-clause-place c =
    let test = c.loop-p-test.true in
    let size = c.loop-p.invariant.size in
    omega (arith, ap length c.cells-cells.ensures.cells, length_cells c.args.product.now)

pub write_eight-requires-in-Product-clause-place : goal.write_eight-requires-in-Product-clause-place
write_eight-requires-in-Product-clause-place c =
    let test = c.loop-p-test.true in
    let size = c.loop-p.invariant.size in
    omega (arith, ap length c.cells-cells.ensures.cells, length_cells c.args.product.now)

pub gate_words-gate-requires-clause-left : goal.gate_words-gate-requires-clause-left
gate_words-gate-requires-clause-left c =
    let is : IsSoundPair c.args.product.now = c.cells-cells.ensures.pair in
    let lt : c.loop-p.p < places_of c.args.product.now = (let test = c.loop-p-test.true in omega (arith, ap length c.cells-cells.ensures.cells, length_cells c.args.product.now)) in
    let cell = cell_is _ c.cells-cells.result.now (cells c.args.product.now) c.loop-p.p (Product c.in-Product.left c.in-Product.right) c.cells-cells.ensures.cells (inside c.args.product.now c.loop-p.p lt) c.in-Product.is in
    let within = (operands c.args.product.now c.loop-p.p c.in-Product.left c.in-Product.right (places_of c.args.product.now) is lt refl cell).0 in
    omega (arith, within, c.loop-p.invariant.size)

pub gate_words-gate-requires-clause-right : goal.gate_words-gate-requires-clause-right
gate_words-gate-requires-clause-right c =
    let is : IsSoundPair c.args.product.now = c.cells-cells.ensures.pair in
    let lt : c.loop-p.p < places_of c.args.product.now = (let test = c.loop-p-test.true in omega (arith, ap length c.cells-cells.ensures.cells, length_cells c.args.product.now)) in
    let cell = cell_is _ c.cells-cells.result.now (cells c.args.product.now) c.loop-p.p (Product c.in-Product.left c.in-Product.right) c.cells-cells.ensures.cells (inside c.args.product.now c.loop-p.p lt) c.in-Product.is in
    let within = (operands c.args.product.now c.loop-p.p c.in-Product.left c.in-Product.right (places_of c.args.product.now) is lt refl cell).1 in
    omega (arith, within, c.loop-p.invariant.size)

pub loop-p-init : goal.loop-p-init
loop-p-init c = filled_begun c.args.product.now c.args.words.now c.requires.size

pub loop-p-preserved : goal.loop-p-preserved
loop-p-preserved c =
    let pair : Pair = c.args.product.now in
    let read : List Cell = c.cells-cells.result.now in
    let is : IsSoundPair pair = c.cells-cells.ensures.pair in
    let e : read ≡ cells pair = c.cells-cells.ensures.cells in
    let lt : c.loop-p.p < places_of pair = (let test = c.loop-p-test.true in omega (arith, ap length c.cells-cells.ensures.cells, length_cells pair)) in
    let within : c.loop-p.p < length (cells pair) = inside pair c.loop-p.p lt in
    let to = λ (ws : List ℕ). AreFilled pair c.args.words.now (c.loop-p.p + 1) ws in
    elim c.match-cells-p.branch [
      | in-Low w ↦ subst to (sym w.words-is) (filled_low pair c.args.words.now c.loop-p.words w.write_eight.new.words c.loop-p.p is lt (cell_is _ read (cells pair) c.loop-p.p Low e within w.in-Low.is) w.write_eight.ensures.size
          (λ j small. w.write_eight.ensures.written j small ∙ get_or-replicate 8 j 0 0 small) (w.write_eight.ensures.below, w.write_eight.ensures.above) c.loop-p.invariant)
      | in-Product w ↦
          let cell = cell_is _ read (cells pair) c.loop-p.p (Product w.in-Product.left w.in-Product.right) e within w.in-Product.is in
          let both = operands pair c.loop-p.p w.in-Product.left w.in-Product.right (places_of pair) is lt refl cell in
          subst to (sym w.words-is) (filled_gate pair c.args.words.now c.loop-p.words w.write_eight-in-Product.new.words c.loop-p.p w.in-Product.left w.in-Product.right is lt cell both.0 both.1 w.write_eight-in-Product.ensures.size
          (λ j b small less. ap (lane_bit b) (w.write_eight-in-Product.ensures.written j small) ∙ w.gate_words-gate.ensures.value j b small less) (w.write_eight-in-Product.ensures.below, w.write_eight-in-Product.ensures.above) c.loop-p.invariant)
      | in-Given w ↦ subst to (sym w.words-is) (filled_free pair c.args.words.now c.loop-p.words c.loop-p.p lt (subst IsFreeCell (sym (cell_is _ read (cells pair) c.loop-p.p Given e within w.in-Given.is)) tt) c.loop-p.invariant)
      | in-Held w ↦ subst to (sym w.words-is) (filled_free pair c.args.words.now c.loop-p.words c.loop-p.p lt (subst IsFreeCell (sym (cell_is _ read (cells pair) c.loop-p.p (Held w.in-Held.field-0 w.in-Held.field-1) e within w.in-Held.is)) tt) c.loop-p.invariant)
    ]

pub returns-clause-lanes : goal.returns-clause-lanes
returns-clause-lanes c j b small lt state inputs on ready =
    let pair : Pair = c.args.product.now in
    fill_all pair (stripe (places_of pair) j c.args.words.now) (stripe (places_of pair) j c.loop-p.words) c.loop-p.p b state inputs
    (let test = c.loop-p-test.false in omega (arith, ap length c.cells-cells.ensures.cells, length_cells pair)) (c.loop-p.invariant.each j small) lt on ready
