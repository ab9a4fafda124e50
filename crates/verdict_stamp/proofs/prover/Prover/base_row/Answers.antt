use Rattle.std.proofs.Common.{subst}
use Rattle.frame_graph.specs.Inductions.{BasePasses}
use Rattle.verdict_stamp.specs.Versions.{Standing, induction_of}
use Rattle.verdict_stamp.specs.Proofs.{IsSplitOf}
use Rattle.verdict_stamp.proofs.Proving.{base_found, base_none}
use Rattle.verdict_stamp.proofs.prover.Prover.base_row.Goals as goal

pub returns-in-Path-clause-some : goal.returns-in-Path-clause-some
returns-in-Path-clause-some c =
    subst (λ (v : Standing). IsSplitOf v c.args.pair.member c.in-Path.seen.bits) c.self.view_is
    (base_found c.self.inside.current.now c.args.pair.member c.in_ok-seen.field-0 c.in-Path.seen c.self.invariant.0 c.in-Path.is c.in_ok-seen.ensures.found)

pub returns-clause-none : goal.returns-clause-none
returns-clause-none c =
    subst (λ (v : Standing). BasePasses (induction_of v) c.args.pair.member) c.self.view_is
    (base_none c.self.inside.current.now c.args.pair.member c.in_ok-seen.field-0 c.in-None.field-0 c.in-None.is c.in_ok-seen.ensures.found)
