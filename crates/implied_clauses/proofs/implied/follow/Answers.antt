use Rattle.std.proofs.Common.{◌≡◌, ◌∙◌, ◌<◌, ℕ, List, get_or, length, refl}
use Rattle.std.proofs.lemmas.List.{get_or_default}
use Rattle.implied_clauses.specs.Implied.{chained}
use Rattle.implied_clauses.specs.declared.implied.Step.{Step}
use Rattle.implied_clauses.proofs.Marks.{follow_taken}
use Rattle.implied_clauses.proofs.implied.follow.Goals as goal

pub loop-step-init : goal.loop-step-init
unfolding chained
loop-step-init c = record { marks = refl; listed = c.requires.listed }

pub loop-step-preserved : goal.loop-step-preserved
loop-step-preserved c =
    let lt : c.loop-step.step-index < length c.args.steps.now = c.loop-step-test.true in
    let steps : List Step = c.args.steps.now in
    let i : ℕ = c.loop-step.step-index in
    let s : Step = get_or steps i (record { pivot = 0; clause = 0 }) in
    let same : s ≡ get_or steps i s = get_or_default steps i (record { pivot = 0; clause = 0 }) s lt in
    record {
      marks = c.in_ok-mark.ensures.marks
          ∙ rw (c.get.ensures, c.unmark.ensures, c.complement.ensures) (follow_taken c.args.clauses.now c.args.marks.now c.loop-step.marks steps i s lt same c.loop-step.invariant.marks);
      listed = c.mark.ensures.listed;
    }
