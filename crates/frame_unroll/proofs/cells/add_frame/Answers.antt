use Rattle.std.proofs.Common.{◌∙◌, ◌++◌, ℕ, length, ap₂, get_or, arith}
use Rattle.std.proofs.lemmas.List.{get_or_default}
use Rattle.product_machine.specs.declared.cell.Cell.{Cell}
use Rattle.product_machine.specs.declared.cell.Cell.TheVariants.{Low}
use Rattle.frame_unroll.specs.Frames.{literal_in, cell_clauses}
use Rattle.frame_unroll.proofs.Appending.{added_more}
use Rattle.frame_unroll.proofs.cells.add_frame.Goals as goal

pub loop-p-preserved : goal.loop-p-preserved
loop-p-preserved c =
    let cell = c.index-cells-p.is ∙ get_or_default c.args.cells.now c.loop-p.p c.index-cells-p.result Low (omega (arith, c.loop-p-test.true, c.requires.places)) in (
      c.add_cell.ensures.vars ∙ c.loop-p.invariant.0,
      added_more (λ p. cell_clauses (literal_in (length c.args.cells.now)) c.args.from_reset c.args.frame.now.number p (get_or c.args.cells.now p Low)) c.args.cnf.now.clauses c.loop-p.cnf.clauses c.add_cell.new.cnf.clauses c.loop-p.p c.loop-p.invariant.1
          (c.in_ok-add_cell.ensures.ok ∙ ap₂ (λ (n : ℕ) (cell : Cell). c.loop-p.cnf.clauses ++ cell_clauses (literal_in n) c.args.from_reset c.args.frame.now.number c.loop-p.p cell) c.requires.places cell),
    )
