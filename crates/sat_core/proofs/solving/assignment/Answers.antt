use Rattle.std.proofs.Common.{◌∙◌, subst}
use Rattle.sat_core.specs.Solving.{HasEnded}
use Rattle.sat_core.proofs.Concluding.{standing_row}
use Rattle.sat_core.proofs.solving.assignment.Goals as goal

pub returns-in_ok-row_of : goal.returns-in_ok-row_of
returns-in_ok-row_of c =
    let s = c.args.s.now in let new = c.search.new.s in
    let h = subst (HasEnded s new) c.if-branch.true c.in_ok-search.ensures in
    standing_row s.vars s.formula new.formula new.trail c.in_ok-row_of.field-0.items (h.1 ∙ h.2) h.3 h.0 c.in_ok-row_of.ensures
