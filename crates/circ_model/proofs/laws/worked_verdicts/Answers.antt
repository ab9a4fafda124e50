use Rattle.circ_model.proofs.WorkedVerdicts.{toggles_correspond, toggles_are_equivalent}
use Rattle.circ_model.proofs.WorkedDifferences.{toggle_is_undecided, toggle_is_different, kept_are_different, toggle_first_differs}
use Rattle.circ_model.proofs.WorkedTies.{tied_kept_are_equivalent}
use Rattle.circ_model.proofs.laws.worked_verdicts.Goals as goal

pub returns-clause-correspondence : goal.returns-clause-correspondence
returns-clause-correspondence c = toggles_correspond

pub returns-clause-equivalent : goal.returns-clause-equivalent
returns-clause-equivalent c = toggles_are_equivalent

pub returns-clause-undecided : goal.returns-clause-undecided
returns-clause-undecided c = toggle_is_undecided

pub returns-clause-different : goal.returns-clause-different
returns-clause-different c = toggle_is_different

pub returns-clause-different_at_once : goal.returns-clause-different_at_once
returns-clause-different_at_once c = kept_are_different

pub returns-clause-first_difference : goal.returns-clause-first_difference
returns-clause-first_difference c = toggle_first_differs

pub returns-clause-equivalent_when_tied : goal.returns-clause-equivalent_when_tied
returns-clause-equivalent_when_tied c = tied_kept_are_equivalent
