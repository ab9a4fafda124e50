use Rattle.std.proofs.Common.{◌≡◌, ◌∙◌, List, ℕ, Bool, ap, sym, subst, arith, length}
use Rattle.std.proofs.lemmas.List.{with_items_is}
use Rattle.std.specs.Vec.{with_items}
use Rattle.circ_model.specs.Meaning.{Pair, latches_of, places_of, row, next_state}
use Rattle.product_machine.specs.Eval.{IsFrame}
use Rattle.sim_words.specs.Lanes.{lane}
use Rattle.sim_words.specs.Simulation.{IsLastFrame, next_frame}
use Rattle.sim_words.specs.Wide.{WideSimulation, stripe}
use Rattle.sim_words.proofs.Frames.{length_lane}
use Rattle.sim_words.proofs.Runs.{lane_steps}
use Rattle.sim_words.proofs.Stripes.{length_stripe}
use Rattle.sim_words.proofs.wide.WideState.step.Goals.{in-None, in-Some}
use Rattle.sim_words.proofs.wide.WideState.step.Goals as goal

pub returns-clause-words : goal.returns-clause-words
returns-clause-words c j b small lt =
    let s = c.self.inside in
    let pair : Pair = s.product.now in
    let fits : length c.wide_frame.new.words ≡ s.words.len = omega (arith, c.wide_frame.ensures.size, c.self.invariant.places, c.as_mut_slice.ensures.len, ap length c.as_mut_slice.ensures.value) in
    ap (λ (ws : List ℕ). lane b (stripe (places_of pair) j ws)) (with_items_is s.words c.wide_frame.new.words fits) ∙ c.wide_frame.ensures.lanes j b small lt
    ∙ ap (λ (ws : List ℕ). row pair (lane b (stripe (latches_of pair) j ws)) (lane b (stripe (length pair.left.inputs) j c.args.inputs.now))) c.as_slice.ensures.value
    ∙ ap (λ (v : WideSimulation). row v.pair (lane b (stripe (latches_of v.pair) j v.state)) (lane b (stripe (length v.pair.left.inputs) j c.args.inputs.now))) c.self.view_is

pub returns-clause-state : goal.returns-clause-state
returns-clause-state c j b small lt =
    let s = c.self.inside in
    let pair : Pair = s.product.now in
    let before : List Bool = lane b (stripe (latches_of pair) j s.state.items) in
    let given : List Bool = lane b (stripe (length pair.left.inputs) j c.args.inputs.now) in
    let on : IsFrame pair before given = record {
      state_length = length_lane b (stripe (latches_of pair) j s.state.items) ∙ length_stripe (latches_of pair) j s.state.items;
      input_length = length_lane b (stripe (length pair.left.inputs) j c.args.inputs.now) ∙ length_stripe (length pair.left.inputs) j c.args.inputs.now;
    } in
    let fits : length c.wide_frame.new.words ≡ s.words.len = omega (arith, c.wide_frame.ensures.size, c.self.invariant.places, c.as_mut_slice.ensures.len, ap length c.as_mut_slice.ensures.value) in
    let room : length c.wide_next.new.state ≡ s.state.len = omega (arith, c.wide_next.ensures.size, c.self.invariant.latches, c.as_mut_slice-2.ensures.len, ap length c.as_mut_slice-2.ensures.value) in
    let words = ap (λ (ws : List ℕ). lane b (stripe (places_of pair) j ws)) (c.as_slice-2.ensures.value ∙ with_items_is s.words c.wide_frame.new.words fits) ∙ c.wide_frame.ensures.lanes j b small lt
    ∙ ap (λ (ws : List ℕ). row pair (lane b (stripe (latches_of pair) j ws)) given) c.as_slice.ensures.value in
    ap (λ (ws : List ℕ). lane b (stripe (latches_of pair) j ws)) (with_items_is s.state c.wide_next.new.state room) ∙ c.wide_next.ensures.next j b small lt before given on words
    ∙ ap (λ (v : WideSimulation). next_state v.pair (lane b (stripe (latches_of v.pair) j v.state)) (lane b (stripe (length v.pair.left.inputs) j c.args.inputs.now))) c.self.view_is

pub invariant_of-self : goal.invariant_of-self
invariant_of-self c =
    let s = c.self.inside in
    let pair : Pair = s.product.now in
    let fits : length c.wide_frame.new.words ≡ s.words.len = omega (arith, c.wide_frame.ensures.size, c.self.invariant.places, c.as_mut_slice.ensures.len, ap length c.as_mut_slice.ensures.value) in
    let room : length c.wide_next.new.state ≡ s.state.len = omega (arith, c.wide_next.ensures.size, c.self.invariant.latches, c.as_mut_slice-2.ensures.len, ap length c.as_mut_slice-2.ensures.value) in
    let words = with_items_is s.words c.wide_frame.new.words fits in
    let state = with_items_is s.state c.wide_next.new.state room in
    let next : c.match-self.next ≡ next_frame s.frame = elim c.match-self.branch [
      | in-None w ↦ w.next-is ∙ sym (ap next_frame w.in-None.is)
      | in-Some w ↦ w.next-is ∙ sym (ap next_frame w.in-Some.is)
    ] in
    record {
      places = ap length words ∙ c.wide_frame.ensures.size;
      latches = ap length state ∙ c.wide_next.ensures.size;
      runs = λ j small. record {
        places = length_stripe (places_of pair) j (with_items s.words c.wide_frame.new.words).items;
        latches = length_stripe (latches_of pair) j (with_items s.state c.wide_next.new.state).items;
        lanes = λ b lt.
            let old : List Bool = lane b (stripe (latches_of pair) j s.state.items) in
            let given : List Bool = lane b (stripe (length pair.left.inputs) j c.args.inputs.now) in
            let bits : List Bool = lane b (stripe (places_of pair) j (with_items s.words c.wide_frame.new.words).items) in
            let after : List Bool = lane b (stripe (latches_of pair) j (with_items s.state c.wide_next.new.state).items) in
            let size : length given ≡ length pair.left.inputs = length_lane b (stripe (length pair.left.inputs) j c.args.inputs.now) ∙ length_stripe (length pair.left.inputs) j c.args.inputs.now in
            let on : IsFrame pair old given = record { state_length = length_lane b (stripe (latches_of pair) j s.state.items) ∙ length_stripe (latches_of pair) j s.state.items; input_length = size } in
            let here = c.wide_frame.ensures.lanes j b small lt ∙ ap (λ (ws : List ℕ). row pair (lane b (stripe (latches_of pair) j ws)) given) c.as_slice.ensures.value in
            let there = c.wide_next.ensures.next j b small lt old given on (ap (λ (ws : List ℕ). lane b (stripe (places_of pair) j ws)) (c.as_slice-2.ensures.value ∙ words) ∙ here) in
            subst (λ (t : ℕ). IsLastFrame pair t after bits) (sym next)
            (lane_steps pair s.frame old (lane b (stripe (places_of pair) j s.words.items)) given after bits ((c.self.invariant.runs j small).lanes b lt) size (ap (λ (ws : List ℕ). lane b (stripe (places_of pair) j ws)) words ∙ here)
            (ap (λ (ws : List ℕ). lane b (stripe (latches_of pair) j ws)) state ∙ there));
      };
    }
