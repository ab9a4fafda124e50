use Rattle.std.proofs.Common.{◌∙◌, sym, ap, arith}
use Rattle.circ_model.specs.Meaning.{bit, signed}
use Rattle.sim_words.specs.Lanes.{lane}
use Rattle.step_lanes.proofs.MaskedLanes.{complemented_lane}
use Rattle.step_lanes.proofs.holding.phased_word.Goals as goal

pub returns-then-phase : goal.returns-then-phase
returns-then-phase c b lt =
    complemented_lane b c.args.words.now c.args.place lt (omega (arith, c.type_inv.words c.args.place))
    ∙ ap (λ s. signed s (bit (lane b c.args.words.now) c.args.place)) (sym c.if-phase.true ∙ c.phase.ensures)
