use Rattle.std.proofs.Common.{◌∙◌, ℕ, ◌<◌, ◌/◌, List, Bool, map, ap, length, subst, sym, refl, arith}
use Rattle.circ_model.specs.Meaning.{value_in}
use Rattle.product_machine.specs.States.{nexts}
use Rattle.product_machine.proofs.States.{next_within_places, next_state_is}
use Rattle.sim_words.proofs.Frames.{next_all}
use Rattle.sim_words.proofs.kernel.next_words.Goals as goal

pub literal_word-requires : goal.literal_word-requires
literal_word-requires c =
    let h = next_within_places c.args.product.now (nexts c.args.product.now) c.loop-i.i 0 c.cells-cells.ensures.pair refl (omega (arith, c.latches-i-end.ensures)) in
    subst (λ (n : ℕ). n / 2 < length c.args.words.now) (sym c.next.ensures) (omega (arith, c.requires.words, h))

pub returns-clause-lanes : goal.returns-clause-lanes
returns-clause-lanes c b lt =
    next_all c.args.product.now c.args.words.now c.loop-i.state c.loop-i.i b (omega (arith, c.latches-i-end.ensures)) c.loop-i.invariant.0 c.loop-i.invariant.1 lt

pub returns-clause-next : goal.returns-clause-next
returns-clause-next c b lt state inputs on words =
    returns-clause-lanes c b lt ∙ ap (λ (v : List Bool). map (value_in v) (nexts c.args.product.now)) words ∙ next_state_is c.args.product.now state inputs c.cells-cells.ensures.pair on
