use Rattle.std.proofs.Common.{◌≡◌, ◌∙◌, ℕ, List, [], ap, sym, subst, arith, length}
use Rattle.std.proofs.lemmas.List.{with_items_is}
use Rattle.circ_model.specs.Meaning.{Pair, IsRun, latches_of, places_of}
use Rattle.sim_words.specs.Lanes.{lane}
use Rattle.sim_words.specs.Simulation.{free_count}
use Rattle.sim_words.specs.Wide.{stripe}
use Rattle.sim_words.proofs.Runs.{start_is_run}
use Rattle.sim_words.proofs.Stripes.{length_stripe}
use Rattle.sim_words.proofs.wide.WideState.reset.Goals as goal

pub invariant_of-self : goal.invariant_of-self
invariant_of-self c =
    let s = c.self.inside in
    let pair : Pair = s.product.now in
    let fits : length c.write_wide_start.new.state ≡ s.state.len = omega (arith, c.write_wide_start.ensures.size, c.self.invariant.latches, c.as_mut_slice.ensures.len, ap length c.as_mut_slice.ensures.value) in
    let same = with_items_is s.state c.write_wide_start.new.state fits in
    record {
      places = c.self.invariant.places;
      latches = ap length same ∙ c.write_wide_start.ensures.size;
      runs = λ j small. record {
        places = length_stripe (places_of pair) j s.words.items;
        latches = length_stripe (latches_of pair) j _;
        lanes = λ b lt. subst (λ (ws : List ℕ). IsRun pair (record { start = lane b (stripe (latches_of pair) j ws); inputs = [] })) (sym same)
            (start_is_run pair (lane b (stripe (free_count pair) j c.args.free.now)) (lane b (stripe (latches_of pair) j c.write_wide_start.new.state)) (c.write_wide_start.ensures.lanes j b small lt));
      };
    }
