use Rattle.std.proofs.Common.{◌≡◌, ◌<◌, ◌+◌, List, ℕ, length, ap, sym, subst, arith}
use Rattle.circ_model.specs.Meaning.{Pair, IsSoundPair, places_of}
use Rattle.product_machine.specs.declared.cell.Cell.{Cell}
use Rattle.product_machine.specs.declared.cell.Cell.TheVariants.{Low, Given, Held, Product}
use Rattle.product_machine.specs.Cells.{cells}
use Rattle.product_machine.proofs.Follow.{length_cells}
use Rattle.product_machine.proofs.OneRow.{inside, IsFreeCell}
use Rattle.product_machine.proofs.TableRead.{operands}
use Rattle.sim_words.proofs.Frames.{cell_is, IsFilled, fill_begun, fill_low, fill_gate, fill_free, fill_all}
use Rattle.sim_words.proofs.kernel.fill.Goals.{in-Low, in-Product, in-Given, in-Held}
use Rattle.sim_words.proofs.kernel.fill.Goals as goal

pub gate_word-word-requires-clause-left : goal.gate_word-word-requires-clause-left
gate_word-word-requires-clause-left c =
    let is : IsSoundPair c.args.product.now = c.cells-cells.ensures.pair in
    let lt : c.loop-p.p < places_of c.args.product.now = omega (arith, ap length c.cells-cells.ensures.cells, length_cells c.args.product.now) in
    let cell = cell_is _ c.cells-cells.result.now (cells c.args.product.now) c.loop-p.p (Product c.in-Product.left c.in-Product.right) c.cells-cells.ensures.cells (inside c.args.product.now c.loop-p.p lt) c.in-Product.is in
    (operands c.args.product.now c.loop-p.p c.in-Product.left c.in-Product.right (length c.loop-p.words) is lt c.loop-p.invariant.size cell).0

pub gate_word-word-requires-clause-right : goal.gate_word-word-requires-clause-right
gate_word-word-requires-clause-right c =
    let is : IsSoundPair c.args.product.now = c.cells-cells.ensures.pair in
    let lt : c.loop-p.p < places_of c.args.product.now = omega (arith, ap length c.cells-cells.ensures.cells, length_cells c.args.product.now) in
    let cell = cell_is _ c.cells-cells.result.now (cells c.args.product.now) c.loop-p.p (Product c.in-Product.left c.in-Product.right) c.cells-cells.ensures.cells (inside c.args.product.now c.loop-p.p lt) c.in-Product.is in
    (operands c.args.product.now c.loop-p.p c.in-Product.left c.in-Product.right (length c.loop-p.words) is lt c.loop-p.invariant.size cell).1

pub loop-p-preserved : goal.loop-p-preserved
loop-p-preserved c =
    let pair : Pair = c.args.product.now in
    let read : List Cell = c.cells-cells.result.now in
    let is : IsSoundPair pair = c.cells-cells.ensures.pair in
    let e : read ≡ cells pair = c.cells-cells.ensures.cells in
    let lt : c.loop-p.p < places_of pair = omega (arith, ap length c.cells-cells.ensures.cells, length_cells pair) in
    let within : c.loop-p.p < length (cells pair) = inside pair c.loop-p.p lt in
    let to = λ (ws : List ℕ). IsFilled pair c.args.words.now (c.loop-p.p + 1) ws in
    elim c.match-cells-p.branch [
      | in-Low w ↦ subst to (sym w.words-is) (fill_low pair c.args.words.now c.loop-p.words c.loop-p.p is lt (cell_is _ read (cells pair) c.loop-p.p Low e within w.in-Low.is) c.loop-p.invariant)
      | in-Product w ↦ subst to (sym w.words-is) (fill_gate pair c.args.words.now c.loop-p.words c.loop-p.p w.in-Product.left w.in-Product.right w.gate_word-word.result is lt
          (cell_is _ read (cells pair) c.loop-p.p (Product w.in-Product.left w.in-Product.right) e within w.in-Product.is) w.gate_word-word.ensures c.loop-p.invariant)
      | in-Given w ↦ subst to (sym w.words-is) (fill_free pair c.args.words.now c.loop-p.words c.loop-p.p lt (subst IsFreeCell (sym (cell_is _ read (cells pair) c.loop-p.p Given e within w.in-Given.is)) tt) c.loop-p.invariant)
      | in-Held w ↦ subst to (sym w.words-is) (fill_free pair c.args.words.now c.loop-p.words c.loop-p.p lt (subst IsFreeCell (sym (cell_is _ read (cells pair) c.loop-p.p (Held w.in-Held.field-0 w.in-Held.field-1) e within w.in-Held.is)) tt) c.loop-p.invariant)
    ]

pub returns-clause-lanes : goal.returns-clause-lanes
returns-clause-lanes c b lt state inputs on ready =
    fill_all c.args.product.now c.args.words.now c.loop-p.words c.loop-p.p b state inputs (omega (arith, ap length c.cells-cells.ensures.cells, length_cells c.args.product.now)) c.loop-p.invariant lt on ready

pub loop-p-init : goal.loop-p-init
loop-p-init c = fill_begun c.args.product.now c.args.words.now c.requires.size

pub bounds-words-p : goal.bounds-words-p
bounds-words-p c = let test = c.loop-p-test.true in omega (arith, ap length c.cells-cells.ensures.cells, length_cells c.args.product.now, c.loop-p.invariant.size)

pub bounds-words-p-in-Product : goal.bounds-words-p-in-Product
bounds-words-p-in-Product c = let test = c.loop-p-test.true in omega (arith, ap length c.cells-cells.ensures.cells, length_cells c.args.product.now, c.loop-p.invariant.size)
