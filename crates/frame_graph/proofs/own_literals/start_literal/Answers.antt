use Rattle.std.proofs.Common.{rules, false, true, subst}
use Rattle.circ_model.specs.Meaning.{bit, row_at}
use Rattle.product_machine.specs.declared.cell.Start.{Start}
use Rattle.product_machine.specs.Cells.{StartsAs}
use Rattle.frame_graph.specs.Frames.{frame_of}
use Rattle.frame_graph.proofs.Rows.{constant_value, reset_fits}
use Rattle.frame_graph.proofs.own_literals.start_literal.Goals as goal

pub returns-in-Zero-clause-value : goal.returns-in-Zero-clause-value
returns-in-Zero-clause-value c literals path v next cell first is =
    let f = frame_of c.args.frame.now in
    let b = bit (row_at f.leaves.pair path f.number) c.args.p in
    constant_value v c.of.result false b is.low c.of.ensures
    (subst (λ (s : Start). StartsAs (bit (row_at f.leaves.pair path f.number)) c.args.p s) c.in-Zero.is (reset_fits f literals path v c.args.p next c.args.start c.cells-cells.ensures.pair c.requires.place cell first (search rules) is))

pub returns-in-One-clause-value : goal.returns-in-One-clause-value
returns-in-One-clause-value c literals path v next cell first is =
    let f = frame_of c.args.frame.now in
    let b = bit (row_at f.leaves.pair path f.number) c.args.p in
    constant_value v c.of-in-One.result true b is.low c.of-in-One.ensures
    (subst (λ (s : Start). StartsAs (bit (row_at f.leaves.pair path f.number)) c.args.p s) c.in-One.is (reset_fits f literals path v c.args.p next c.args.start c.cells-cells.ensures.pair c.requires.place cell first (search rules) is))
