use Rattle.std.proofs.Common.{◌≡◌, ◌∙◌, List, Bool, length, map, ap, sym, subst, arith}
use Rattle.circ_model.specs.Meaning.{Path, inputs_at, row, state_at, value_in}
use Rattle.circ_model.proofs.Paths.{state_start, length_state}
use Rattle.circ_model.proofs.Rows.{length_row}
use Rattle.product_machine.specs.Eval.{IsFrame}
use Rattle.product_machine.specs.States.{nexts}
use Rattle.product_machine.proofs.OneRow.{one_frame}
use Rattle.product_machine.proofs.Walking.{frame_of, walked}
use Rattle.product_machine.proofs.product.Product.walk.Goals as goal

pub loop-s-init : goal.loop-s-init
loop-s-init c = (c.copy_from.ensures ∙ ap (λ (p : Path). p.start) c.path.view_is ∙ sym (state_start c.args.self.now c.args.path.now), c.requires.values)

pub eval-requires-clause-frame : goal.eval-requires-clause-frame
eval-requires-clause-frame c =
    subst (IsFrame c.args.self.now c.loop-s.state) (sym (c.row.ensures ∙ ap (λ (p : Path). inputs_at p c.loop-s.s) c.path.view_is))
    (frame_of c.args.self.now c.args.path.now c.loop-s.s c.loop-s.state c.requires.path (omega (arith, c.requires.frame)) c.loop-s.invariant.0)

pub next_state-requires-clause-state : goal.next_state-requires-clause-state
next_state-requires-clause-state c = ap length c.loop-s.invariant.0 ∙ length_state c.args.self.now c.args.path.now c.loop-s.s c.requires.path

pub loop-s-preserved : goal.loop-s-preserved
unfolding state_at
loop-s-preserved c =
    let input = c.row.ensures ∙ ap (λ (p : Path). inputs_at p c.loop-s.s) c.path.view_is in (
      walked c.args.self.now c.args.path.now c.loop-s.s c.loop-s.state c.next_state.new.state c.cells-cells.ensures.pair c.requires.path (omega (arith, c.requires.frame)) c.loop-s.invariant.0
          (c.next_state.ensures.values ∙ ap (λ (vs : List Bool). map (value_in vs) (nexts c.args.self.now)) (c.eval.ensures ∙ ap (row c.args.self.now c.loop-s.state) input)),
      ap length c.eval.ensures ∙ length_row c.args.self.now (one_frame c.loop-s.state c.row.result.now) 0,
    )

pub eval-requires-2-clause-frame : goal.eval-requires-2-clause-frame
eval-requires-2-clause-frame c =
    let last : c.loop-s.s ≡ c.args.t = omega arith in
    subst (IsFrame c.args.self.now c.loop-s.state) (sym (c.row-2.ensures ∙ ap (λ (p : Path). inputs_at p c.args.t) c.path.view_is))
    (frame_of c.args.self.now c.args.path.now c.args.t c.loop-s.state c.requires.path c.requires.frame (c.loop-s.invariant.0 ∙ ap (state_at c.args.self.now c.args.path.now) last))

pub returns-clause-row : goal.returns-clause-row
returns-clause-row c =
    let last : c.loop-s.s ≡ c.args.t = omega arith in
    let input = c.row-2.ensures ∙ ap (λ (p : Path). inputs_at p c.args.t) c.path.view_is in
    c.eval-2.ensures ∙ ap (row c.args.self.now c.loop-s.state) input ∙ ap (λ (s : List Bool). row c.args.self.now s (inputs_at c.args.path.now c.args.t)) (c.loop-s.invariant.0 ∙ ap (state_at c.args.self.now c.args.path.now) last)

pub returns-clause-state : goal.returns-clause-state
returns-clause-state c = ap length c.loop-s.invariant.0 ∙ length_state c.args.self.now c.args.path.now c.loop-s.s c.requires.path

pub returns-clause-values : goal.returns-clause-values
unfolding state_at
returns-clause-values c = ap length c.eval-2.ensures ∙ length_row c.args.self.now (one_frame c.loop-s.state c.row-2.result.now) 0
