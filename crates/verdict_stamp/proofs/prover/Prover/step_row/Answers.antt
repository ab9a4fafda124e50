use Rattle.std.proofs.Common.{subst, sym}
use Rattle.frame_graph.specs.Inductions.{Induction, StepPasses}
use Rattle.verdict_stamp.specs.Versions.{Standing, induction_of}
use Rattle.verdict_stamp.specs.Proofs.{IsSplitOf}
use Rattle.verdict_stamp.proofs.Proving.{step_found, step_none}
use Rattle.verdict_stamp.proofs.prover.Prover.step_row.Goals as goal

pub returns-in-Path-clause-some : goal.returns-in-Path-clause-some
returns-in-Path-clause-some c =
    subst (λ (v : Standing). IsSplitOf v c.args.pair.member c.in-Path.seen.bits) c.self.view_is
    (step_found c.self.inside.current.now c.args.pair.member c.in_ok-seen.field-0 c.in-Path.seen c.self.invariant.0 c.in-Path.is c.in_ok-seen.ensures.found)

pub take_passed-requires-clause-passes : goal.take_passed-requires-clause-passes
take_passed-requires-clause-passes c =
    subst (λ (i : Induction). StepPasses i c.args.pair.member) (sym c.self.invariant.1)
    (step_none c.self.inside.current.now c.args.pair.member c.in_ok-seen.field-0 c.in-None.field-0 c.in-None.is c.in_ok-seen.ensures.found)

pub returns-clause-none : goal.returns-clause-none
returns-clause-none c =
    subst (λ (v : Standing). StepPasses (induction_of v) c.args.pair.member) c.self.view_is
    (step_none c.self.inside.current.now c.args.pair.member c.in_ok-seen.field-0 c.in-None.field-0 c.in-None.is c.in_ok-seen.ensures.found)
