use Rattle.std.proofs.Common.{◌∙◌, ◌<◌, ◌+◌, ℕ, ap, ap₂, sym, arith, if◌then◌else◌}
use Rattle.circ_model.specs.declared.netlist.Reset.{Reset}
use Rattle.circ_model.specs.Meaning.{is_free, latches_of, Pair}
use Rattle.sim_words.specs.Lanes.{lane_bit}
use Rattle.sim_words.specs.Simulation.{free_count, start_bit}
use Rattle.sim_words.specs.Wide.{stripe, wide_bit}
use Rattle.sim_words.proofs.Counting.{counted_more, number_within}
use Rattle.sim_words.proofs.Runs.{start_all}
use Rattle.sim_words.proofs.Stripes.{all_started_more, length_stripe}
use Rattle.sim_words.proofs.start.write_wide_start.Goals as goal

pub start_words-start-requires : goal.start_words-start-requires
start_words-start-requires c e =
    let pair : Pair = c.args.product.now in
    let lt : c.loop-i.i < latches_of pair = (let test = c.loop-i-test.true in omega (arith, c.latches-i-end.ensures)) in
    let number = number_within pair c.loop-i.i c.cells-cells.ensures.pair lt (sym c.reset-reset.ensures ∙ e) in
    omega (arith, c.word_number-used.ensures, number, c.requires.free)

pub write_eight-requires-clause-place : goal.write_eight-requires-clause-place
write_eight-requires-clause-place c =
    let test = c.loop-i-test.true in
    let size = c.loop-i.invariant.0 in
    omega (arith, c.latches-i-end.ensures)

pub loop-i-preserved : goal.loop-i-preserved
loop-i-preserved c =
    let pair : Pair = c.args.product.now in
    let lt : c.loop-i.i < latches_of pair = (let test = c.loop-i-test.true in omega (arith, c.latches-i-end.ensures)) in (
      c.write_eight.ensures.size ∙ c.loop-i.invariant.0,
      ap₂ (λ (x y : ℕ). x + y) c.word_number-used.ensures (c.taken.ensures ∙ ap (λ (r : Reset). if is_free r then 1 else 0) c.reset-reset.ensures) ∙ sym (counted_more pair c.loop-i.i lt),
      all_started_more pair c.args.free.now c.loop-i.state c.write_eight.new.words c.loop-i.i lt (number_within pair c.loop-i.i c.cells-cells.ensures.pair lt)
          (λ j b small less. ap (lane_bit b) (c.write_eight.ensures.written j small) ∙ c.start_words-start.ensures.value j b small less
          ∙ ap₂ (λ (r : Reset) (k : ℕ). start_bit r (wide_bit c.args.free.now j b k)) c.reset-reset.ensures c.word_number-used.ensures)
          (c.write_eight.ensures.below, c.write_eight.ensures.above) c.loop-i.invariant.2,
    )

pub returns-clause-lanes : goal.returns-clause-lanes
returns-clause-lanes c j b small lt =
    let pair : Pair = c.args.product.now in
    start_all pair (stripe (free_count pair) j c.args.free.now) (stripe (latches_of pair) j c.loop-i.state) c.loop-i.i b (let test = c.loop-i-test.false in omega (arith, c.latches-i-end.ensures)) (length_stripe (latches_of pair) j c.loop-i.state)
    (c.loop-i.invariant.2 j small) lt
