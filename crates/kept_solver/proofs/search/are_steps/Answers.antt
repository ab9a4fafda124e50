use Rattle.std.proofs.Common.{◌<◌}
use Rattle.implied_clauses.specs.declared.implied.Step.{Step}
use Rattle.kept_solver.proofs.Questions.{one_more, whole}
use Rattle.kept_solver.proofs.search.are_steps.Goals as goal

pub loop-step-preserved : goal.loop-step-preserved
loop-step-preserved c =
    one_more (λ (s : Step). (s.pivot < c.args.codes) × (s.clause < c.args.clauses)) c.args.steps.now c.loop-step.step-index (record { pivot = 0; clause = 0 }) c.loop-step-test.true c.loop-step.invariant
    (c.if-step-codes.false, c.if-step-clauses.false)

pub returns : goal.returns
returns c e = whole (λ (s : Step). (s.pivot < c.args.codes) × (s.clause < c.args.clauses)) c.args.steps.now c.loop-step.step-index c.loop-step-test.false c.loop-step.invariant
