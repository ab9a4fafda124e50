use Rattle.std.proofs.Common.{◌∙◌, ap, subst}
use Rattle.cnf_store.specs.Clauses.{IsFormula}
use Rattle.frame_unroll.specs.Unrolled.{Unrolling, formula_of}
use Rattle.frame_unroll.specs.Ready.{IsReady}
use Rattle.frame_unroll.proofs.Standing.{has_row}
use Rattle.frame_unroll.proofs.unrolled.Unrolled.cnf.Goals as goal

pub returns-clause-clauses : goal.returns-clause-clauses
returns-clause-clauses c = c.self.invariant.are ∙ ap formula_of c.self.view_is

pub returns-clause-within : goal.returns-clause-within
returns-clause-within c = subst IsFormula (c.self.invariant.are ∙ ap formula_of c.self.view_is) c.len-clauses.ensures.formula

pub returns-clause-paths : goal.returns-clause-paths
returns-clause-paths c path sought =
    let ready : IsReady c.args.self.now c.self.inside.cnf c.self.inside.plain = subst (λ (u : Unrolling). IsReady u c.self.inside.cnf c.self.inside.plain) c.self.view_is c.self.invariant in
    has_row c.args.self.now c.self.inside.cnf c.self.inside.plain path ready sought
