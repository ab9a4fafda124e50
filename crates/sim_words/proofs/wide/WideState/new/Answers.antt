use Rattle.std.proofs.Common.{rules, ◌≡◌, ◌∙◌, ◌*◌, ℕ, List, [], ap, sym, subst, arith, length}
use Rattle.std.proofs.lemmas.List.{with_items_is, length-replicate}
use Rattle.circ_model.specs.Meaning.{Pair, IsRun, latches_of, places_of}
use Rattle.sim_words.specs.Lanes.{lane}
use Rattle.sim_words.specs.Simulation.{free_count}
use Rattle.sim_words.specs.Wide.{stripe}
use Rattle.sim_words.proofs.Runs.{start_is_run, start_is_first}
use Rattle.sim_words.proofs.Stripes.{length_stripe, wide_zero}
use Rattle.sim_words.proofs.wide.WideState.new.Goals as goal

pub returns-clause-lanes : goal.returns-clause-lanes
returns-clause-lanes c j b small lt =
    let pair : Pair = c.args.product.now in
    let fits : length c.write_wide_start.new.state ≡ c.in_ok-state.state.len = omega (arith, c.write_wide_start.ensures.size, c.in_ok-state.ensures.len, c.latches.ensures) in
    let free : List ℕ = stripe (free_count pair) j c.as_slice.result.now in
    ap (λ (ws : List ℕ). lane b (stripe (latches_of pair) j ws)) (with_items_is c.in_ok-state.state c.write_wide_start.new.state fits)
    ∙ start_is_first pair (lane b free) (lane b (stripe (latches_of pair) j c.write_wide_start.new.state))
    (λ k. wide_zero (8 * c.len.result) (free_count pair) j b k c.as_slice.result.now (c.as_slice.ensures.value ∙ c.in_ok-words.ensures.items_if_clones_equal (search rules))) (c.write_wide_start.ensures.lanes j b small lt)

pub invariant_of-result : goal.invariant_of-result
invariant_of-result c =
    let pair : Pair = c.args.product.now in
    let fits : length c.write_wide_start.new.state ≡ c.in_ok-state.state.len = omega (arith, c.write_wide_start.ensures.size, c.in_ok-state.ensures.len, c.latches.ensures) in
    let same = with_items_is c.in_ok-state.state c.write_wide_start.new.state fits in
    let words = c.in_ok-words.ensures.items_if_clones_equal (search rules) in
    record {
      places = ap length words ∙ length-replicate (8 * c.len.result) 0 ∙ ap (λ (n : ℕ). 8 * n) c.len.ensures.places;
      latches = ap length same ∙ c.write_wide_start.ensures.size;
      runs = λ j small. record {
        places = length_stripe (places_of pair) j c.in_ok-words.words.items;
        latches = length_stripe (latches_of pair) j _;
        lanes = λ b lt. subst (λ (ws : List ℕ). IsRun pair (record { start = lane b (stripe (latches_of pair) j ws); inputs = [] })) (sym same)
            (start_is_run pair (lane b (stripe (free_count pair) j c.as_slice.result.now)) (lane b (stripe (latches_of pair) j c.write_wide_start.new.state)) (c.write_wide_start.ensures.lanes j b small lt));
      };
    }
