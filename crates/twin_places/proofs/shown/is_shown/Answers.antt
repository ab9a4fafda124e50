use Rattle.std.proofs.Common.{◌≡◌, ℕ, None, Ok, subst}
use Rattle.std.specs.Prelude.{IfNone, IfOk}
use Rattle.frame_graph.specs.Inductions.{BasePasses, Induction, StepPasses}
use Rattle.frame_graph.proofs.Staying.{both_halves}
use Rattle.twin_places.proofs.shown.is_shown.Goals as goal

pub returns-clause-passes : goal.returns-clause-passes
returns-clause-passes c shown =
    let i : Induction = c.args.sweep.now in
    let p : ℕ = c.args.place in
    let base : BasePasses i p = subst (λ found. IfOk found (λ f. IfNone f (BasePasses i p))) (c.in_ok-base.ensures c.if-not-base.false) c.base_difference.ensures.passes in
    let step : StepPasses c.base_difference.new.self p =
    subst (λ found. IfOk found (λ f. IfNone f (StepPasses c.base_difference.new.self p))) (c.in_ok-step.ensures shown) c.step_difference.ensures.passes in
    both_halves i p base (subst (λ (j : Induction). StepPasses j p) c.base_difference.ensures.kept step)
