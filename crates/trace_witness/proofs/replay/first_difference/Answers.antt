use Rattle.std.proofs.Common.{◌∙◌, length, ap, sym, arith}
use Rattle.circ_model.specs.Meaning.{Path, inputs_at}
use Rattle.circ_model.proofs.Paths.{state_start}
use Rattle.trace_witness.proofs.Outputs.{first_here, none_here, frame_stepped, state_stepped}
use Rattle.trace_witness.proofs.replay.first_difference.Goals as goal

pub loop-t-init : goal.loop-t-init
loop-t-init c = (c.start.ensures.scratch, c.start.ensures.state ∙ ap (λ (p : Path). p.start) c.path.view_is ∙ sym (state_start c.args.product.now c.args.path.now), λ s i lt few. absurd (omega arith))

pub returns-in-Some-clause-first : goal.returns-in-Some-clause-first
returns-in-Some-clause-first c =
    let lt = c.loop-t-test.true in
    let n = ap (λ (p : Path). length p.inputs) c.path.view_is in
    let input = c.row.ensures ∙ ap (λ (p : Path). inputs_at p c.loop-t.t) c.path.view_is in
    let values = frame_stepped c.args.product.now c.args.path.now c.loop-t.t c.loop-t.scratch.state c.row.result.now c.step.new.scratch.values c.loop-t.invariant.1 input c.step.ensures.values in
    first_here c.args.product.now c.args.path.now c.loop-t.t c.in-Some.j c.values.result.now c.cells-cells.ensures.pair c.requires.path (omega (arith, c.len-t-end.ensures)) c.loop-t.invariant.2
    (c.values.ensures ∙ values) c.in-Some.ensures

pub loop-t-preserved : goal.loop-t-preserved
loop-t-preserved c =
    let lt = c.loop-t-test.true in
    let n = ap (λ (p : Path). length p.inputs) c.path.view_is in
    let input = c.row.ensures ∙ ap (λ (p : Path). inputs_at p c.loop-t.t) c.path.view_is in
    let values = frame_stepped c.args.product.now c.args.path.now c.loop-t.t c.loop-t.scratch.state c.row.result.now c.step.new.scratch.values c.loop-t.invariant.1 input c.step.ensures.values in (
      c.step.ensures.scratch,
      state_stepped c.args.product.now c.args.path.now c.loop-t.t c.loop-t.scratch.state c.row.result.now c.step.new.scratch.state c.loop-t.invariant.1 input c.step.ensures.state,
      none_here c.args.product.now c.args.path.now c.loop-t.t c.values.result.now c.cells-cells.ensures.pair c.requires.path (omega (arith, c.len-t-end.ensures)) c.loop-t.invariant.2
          (c.values.ensures ∙ values) c.in_default.ensures,
    )
