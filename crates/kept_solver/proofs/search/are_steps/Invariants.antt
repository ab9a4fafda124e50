use Rattle.std.proofs.Common.{take}
use Rattle.implied_clauses.specs.Implied.{AreSteps}
use Rattle.kept_solver.proofs.search.are_steps.Given as goal

abbrev pub invariant-loop-step : goal.invariant-loop-step
invariant-loop-step l = AreSteps l.codes l.clauses (take l.step-index l.steps)
