use Rattle.std.proofs.Common.{◌∙◌, ◌<◌, ◌+◌, ℕ, ap, ap₂, sym, arith, if◌then◌else◌}
use Rattle.std.proofs.lemmas.List.{length-set}
use Rattle.circ_model.specs.declared.netlist.Reset.{Reset}
use Rattle.circ_model.specs.Meaning.{bit, is_free, latches_of, Pair}
use Rattle.sim_words.specs.Lanes.{lane}
use Rattle.sim_words.specs.Simulation.{start_bit}
use Rattle.sim_words.proofs.Counting.{counted_more, number_within}
use Rattle.sim_words.proofs.Runs.{started_more, start_all}
use Rattle.sim_words.proofs.start.write_start.Goals as goal

pub start_word-requires : goal.start_word-requires
start_word-requires c e =
    let pair : Pair = c.args.product.now in
    let lt : c.loop-i.i < latches_of pair = (let test = c.loop-i-test.true in omega (arith, c.latches-i-end.ensures)) in
    omega (arith, c.word_number-used.ensures, number_within pair c.loop-i.i c.cells-cells.ensures.pair lt (sym c.reset-reset.ensures ∙ e), c.requires.free)

pub loop-i-preserved : goal.loop-i-preserved
loop-i-preserved c =
    let pair : Pair = c.args.product.now in
    let lt : c.loop-i.i < latches_of pair = (let test = c.loop-i-test.true in omega (arith, c.latches-i-end.ensures)) in (
      length-set c.loop-i.state c.loop-i.i c.start_word.result ∙ c.loop-i.invariant.0,
      ap₂ (λ (x y : ℕ). x + y) c.word_number-used.ensures (c.taken.ensures ∙ ap (λ (r : Reset). if is_free r then 1 else 0) c.reset-reset.ensures) ∙ sym (counted_more pair c.loop-i.i lt),
      started_more pair c.args.free.now c.loop-i.state c.loop-i.i c.start_word.result (omega (arith, c.loop-i.invariant.0))
          (λ b less. c.start_word.ensures b less ∙ ap₂ (λ (r : Reset) (k : ℕ). start_bit r (bit (lane b c.args.free.now) k)) c.reset-reset.ensures c.word_number-used.ensures) c.loop-i.invariant.2,
    )

pub returns-clause-lanes : goal.returns-clause-lanes
returns-clause-lanes c b lt =
    start_all c.args.product.now c.args.free.now c.loop-i.state c.loop-i.i b (omega (arith, c.latches-i-end.ensures)) c.loop-i.invariant.0 c.loop-i.invariant.2 lt
