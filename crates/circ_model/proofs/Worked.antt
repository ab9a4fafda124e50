-- The rows of the worked circuits, by computation.
use Rattle.std.proofs.Common.{refl}
use Rattle.circ_model.specs.Meaning.{state_at, value_at_level}
use Rattle.circ_model.specs.Rows.{TogglesGoTogether, TogglesGoApart, ToggleLeavesZero, KeptStayApart, ProductsComeLate, RingTurns}

pub toggles_go_together : TogglesGoTogether
unfolding state_at value_at_level
toggles_go_together = refl

pub toggles_go_apart : TogglesGoApart
unfolding state_at value_at_level
toggles_go_apart = refl

pub toggle_leaves_zero : ToggleLeavesZero
unfolding state_at value_at_level
toggle_leaves_zero = refl

pub kept_stay_apart : KeptStayApart
unfolding state_at value_at_level
kept_stay_apart = refl

pub products_come_late : ProductsComeLate
unfolding state_at value_at_level
products_come_late = refl

pub ring_turns : RingTurns
unfolding state_at value_at_level
ring_turns = refl
