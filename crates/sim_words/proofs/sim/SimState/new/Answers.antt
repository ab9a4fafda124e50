use Rattle.std.proofs.Common.{rules, ◌≡◌, ◌∙◌, ℕ, List, [], ap, sym, subst, arith, length}
use Rattle.std.proofs.lemmas.List.{with_items_is, length-replicate}
use Rattle.circ_model.specs.Meaning.{Pair, IsRun}
use Rattle.sim_words.specs.Lanes.{lane}
use Rattle.sim_words.proofs.Runs.{start_is_run, start_is_first, zero_lane}
use Rattle.sim_words.proofs.sim.SimState.new.Goals as goal

pub returns-clause-lanes : goal.returns-clause-lanes
returns-clause-lanes c b lt =
    let fits : length c.write_start.new.state ≡ c.in_ok-state.state.len = omega (arith, c.write_start.ensures.size, c.in_ok-state.ensures.len, c.latches.ensures) in
    ap (lane b) (with_items_is c.in_ok-state.state c.write_start.new.state fits)
    ∙ start_is_first c.args.product.now (lane b c.as_slice.result.now) (lane b c.write_start.new.state) (λ k. zero_lane b c.len.result k c.as_slice.result.now (c.as_slice.ensures.value ∙ c.in_ok-words.ensures.items_if_clones_equal (search rules))) (c.write_start.ensures.lanes b lt)

pub invariant_of-result : goal.invariant_of-result
invariant_of-result c =
    let pair : Pair = c.args.product.now in
    let fits : length c.write_start.new.state ≡ c.in_ok-state.state.len = omega (arith, c.write_start.ensures.size, c.in_ok-state.ensures.len, c.latches.ensures) in
    let same = with_items_is c.in_ok-state.state c.write_start.new.state fits in
    record {
      places = ap length (c.in_ok-words.ensures.items_if_clones_equal (search rules)) ∙ length-replicate c.len.result 0 ∙ c.len.ensures.places;
      latches = ap length same ∙ c.write_start.ensures.size;
      lanes = λ b lt. subst (λ (ws : List ℕ). IsRun pair (record { start = lane b ws; inputs = [] })) (sym same) (start_is_run pair (lane b c.as_slice.result.now) (lane b c.write_start.new.state) (c.write_start.ensures.lanes b lt));
    }
