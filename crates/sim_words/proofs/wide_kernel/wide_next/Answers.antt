use Rattle.std.proofs.Common.{◌∙◌, ◌<◌, ◌≤◌, ◌+◌, ◌*◌, ◌/◌, ℕ, List, Bool, map, ap, length, subst, sym, refl, arith}
use Rattle.circ_model.specs.Meaning.{Pair, latches_of, literal_value, places_of, value_in}
use Rattle.product_machine.specs.States.{nexts}
use Rattle.product_machine.proofs.States.{next_within_places, next_state_is}
use Rattle.sim_words.specs.Lanes.{lane_bit}
use Rattle.sim_words.specs.Wide.{stripe, wide_bit}
use Rattle.sim_words.proofs.Frames.{next_all}
use Rattle.sim_words.proofs.Stripes.{length_stripe, next_more}
use Rattle.sim_words.proofs.wide_kernel.wide_next.Goals as goal

pub literal_words-next-requires : goal.literal_words-next-requires
literal_words-next-requires c =
    let test = c.loop-i-test.true in
    let h = next_within_places c.args.product.now (nexts c.args.product.now) c.loop-i.i 0 c.cells-cells.ensures.pair refl (omega (arith, c.latches-i-end.ensures)) in
    subst (λ (n : ℕ). 8 * (n / 2) + 8 ≤ length c.args.words.now) (sym c.next.ensures) (omega (arith, c.requires.words, h))

pub write_eight-requires-clause-place : goal.write_eight-requires-clause-place
write_eight-requires-clause-place c =
    let test = c.loop-i-test.true in
    let size = c.loop-i.invariant.0 in
    omega (arith, c.latches-i-end.ensures)

pub loop-i-preserved : goal.loop-i-preserved
loop-i-preserved c =
    let pair : Pair = c.args.product.now in
    let lt : c.loop-i.i < latches_of pair = (let test = c.loop-i-test.true in omega (arith, c.latches-i-end.ensures)) in
    let within = next_within_places pair (nexts pair) c.loop-i.i 0 c.cells-cells.ensures.pair refl lt in (
      c.write_eight.ensures.size ∙ c.loop-i.invariant.0,
      next_more pair c.args.words.now c.loop-i.state c.write_eight.new.words c.loop-i.i lt within
          (λ j b small less. ap (lane_bit b) (c.write_eight.ensures.written j small) ∙ c.literal_words-next.ensures.value j b small less ∙ ap (literal_value (wide_bit c.args.words.now j b)) c.next.ensures)
          (c.write_eight.ensures.below, c.write_eight.ensures.above) c.loop-i.invariant.1,
    )

pub returns-clause-lanes : goal.returns-clause-lanes
returns-clause-lanes c j b small lt =
    let pair : Pair = c.args.product.now in
    next_all pair (stripe (places_of pair) j c.args.words.now) (stripe (latches_of pair) j c.loop-i.state) c.loop-i.i b (let test = c.loop-i-test.false in omega (arith, c.latches-i-end.ensures)) (length_stripe (latches_of pair) j c.loop-i.state)
    (c.loop-i.invariant.1 j small) lt

pub returns-clause-next : goal.returns-clause-next
returns-clause-next c j b small lt state inputs on words =
    returns-clause-lanes c j b small lt ∙ ap (λ (v : List Bool). map (value_in v) (nexts c.args.product.now)) words ∙ next_state_is c.args.product.now state inputs c.cells-cells.ensures.pair on
