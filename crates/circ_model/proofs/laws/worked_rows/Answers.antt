use Rattle.circ_model.proofs.Worked.{toggles_go_together, toggles_go_apart, toggle_leaves_zero, kept_stay_apart, products_come_late, ring_turns}
use Rattle.circ_model.proofs.laws.worked_rows.Goals as goal

pub returns-clause-toggles : goal.returns-clause-toggles
returns-clause-toggles c = toggles_go_together

pub returns-clause-complemented_toggle : goal.returns-clause-complemented_toggle
returns-clause-complemented_toggle c = toggles_go_apart

pub returns-clause-toggle_and_constant : goal.returns-clause-toggle_and_constant
returns-clause-toggle_and_constant c = toggle_leaves_zero

pub returns-clause-free_latches : goal.returns-clause-free_latches
returns-clause-free_latches c = kept_stay_apart

pub returns-clause-products : goal.returns-clause-products
returns-clause-products c = products_come_late

pub returns-clause-ring : goal.returns-clause-ring
returns-clause-ring c = ring_turns
