use Rattle.std.proofs.Common.{◌≡◌, ◌∙◌, List, ℕ, Bool, ap, sym, subst, arith, length}
use Rattle.std.proofs.lemmas.List.{with_items_is}
use Rattle.std.specs.Vec.{with_items}
use Rattle.circ_model.specs.Meaning.{Pair, row, next_state}
use Rattle.product_machine.specs.Eval.{IsFrame}
use Rattle.sim_words.specs.Lanes.{lane}
use Rattle.sim_words.specs.Simulation.{Simulation, IsLastFrame, next_frame}
use Rattle.sim_words.proofs.Frames.{length_lane}
use Rattle.sim_words.proofs.Runs.{lane_steps}
use Rattle.sim_words.proofs.sim.SimState.step.Goals.{in-None, in-Some}
use Rattle.sim_words.proofs.sim.SimState.step.Goals as goal

pub returns-clause-words : goal.returns-clause-words
returns-clause-words c b lt =
    let s = c.self.inside in
    let fits : length c.frame_words.new.words ≡ s.words.len = omega (arith, c.frame_words.ensures.size, c.self.invariant.places, c.as_mut_slice.ensures.len, ap length c.as_mut_slice.ensures.value) in
    ap (lane b) (with_items_is s.words c.frame_words.new.words fits) ∙ c.frame_words.ensures.lanes b lt
    ∙ ap (λ (ws : List ℕ). row s.product.now (lane b ws) (lane b c.args.inputs.now)) c.as_slice.ensures.value
    ∙ ap (λ (v : Simulation). row v.pair (lane b v.state) (lane b c.args.inputs.now)) c.self.view_is

pub returns-clause-state : goal.returns-clause-state
returns-clause-state c b lt =
    let s = c.self.inside in
    let pair : Pair = s.product.now in
    let given : length (lane b c.args.inputs.now) ≡ length pair.left.inputs = length_lane b c.args.inputs.now ∙ c.requires.inputs ∙ sym (ap (λ (v : Simulation). length v.pair.left.inputs) c.self.view_is) in
    let on : IsFrame pair (lane b s.state.items) (lane b c.args.inputs.now) = record { state_length = length_lane b s.state.items ∙ c.self.invariant.latches; input_length = given } in
    let fits : length c.frame_words.new.words ≡ s.words.len = omega (arith, c.frame_words.ensures.size, c.self.invariant.places, c.as_mut_slice.ensures.len, ap length c.as_mut_slice.ensures.value) in
    let room : length c.next_words.new.state ≡ s.state.len = omega (arith, c.next_words.ensures.size, c.self.invariant.latches, c.as_mut_slice-2.ensures.len, ap length c.as_mut_slice-2.ensures.value) in
    let words = ap (lane b) (c.as_slice-2.ensures.value ∙ with_items_is s.words c.frame_words.new.words fits) ∙ c.frame_words.ensures.lanes b lt
    ∙ ap (λ (ws : List ℕ). row pair (lane b ws) (lane b c.args.inputs.now)) c.as_slice.ensures.value in
    ap (lane b) (with_items_is s.state c.next_words.new.state room) ∙ c.next_words.ensures.next b lt (lane b s.state.items) (lane b c.args.inputs.now) on words
    ∙ ap (λ (v : Simulation). next_state v.pair (lane b v.state) (lane b c.args.inputs.now)) c.self.view_is

pub invariant_of-self : goal.invariant_of-self
invariant_of-self c =
    let s = c.self.inside in
    let pair : Pair = s.product.now in
    let given = λ (b : ℕ). length_lane b c.args.inputs.now ∙ c.requires.inputs ∙ sym (ap (λ (v : Simulation). length v.pair.left.inputs) c.self.view_is) in
    let fits : length c.frame_words.new.words ≡ s.words.len = omega (arith, c.frame_words.ensures.size, c.self.invariant.places, c.as_mut_slice.ensures.len, ap length c.as_mut_slice.ensures.value) in
    let room : length c.next_words.new.state ≡ s.state.len = omega (arith, c.next_words.ensures.size, c.self.invariant.latches, c.as_mut_slice-2.ensures.len, ap length c.as_mut_slice-2.ensures.value) in
    let words = with_items_is s.words c.frame_words.new.words fits in
    let state = with_items_is s.state c.next_words.new.state room in
    let next : c.match-self.next ≡ next_frame s.frame = elim c.match-self.branch [
      | in-None w ↦ w.next-is ∙ sym (ap next_frame w.in-None.is)
      | in-Some w ↦ w.next-is ∙ sym (ap next_frame w.in-Some.is)
    ] in
    record {
      places = ap length words ∙ c.frame_words.ensures.size;
      latches = ap length state ∙ c.next_words.ensures.size;
      lanes = λ b lt.
          let bits : List Bool = lane b (with_items s.words c.frame_words.new.words).items in
          let after : List Bool = lane b (with_items s.state c.next_words.new.state).items in
          let on : IsFrame pair (lane b s.state.items) (lane b c.args.inputs.now) = record { state_length = length_lane b s.state.items ∙ c.self.invariant.latches; input_length = given b } in
          let here = c.frame_words.ensures.lanes b lt ∙ ap (λ (ws : List ℕ). row pair (lane b ws) (lane b c.args.inputs.now)) c.as_slice.ensures.value in
          let there = c.next_words.ensures.next b lt (lane b s.state.items) (lane b c.args.inputs.now) on (ap (lane b) (c.as_slice-2.ensures.value ∙ words) ∙ here) in
          subst (λ (t : ℕ). IsLastFrame pair t after bits) (sym next)
          (lane_steps pair s.frame (lane b s.state.items) (lane b s.words.items) (lane b c.args.inputs.now) after bits (c.self.invariant.lanes b lt) (given b) (ap (lane b) words ∙ here) (ap (lane b) state ∙ there));
    }
