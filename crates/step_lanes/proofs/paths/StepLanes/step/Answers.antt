use Rattle.std.proofs.Common.{◌≡◌, ◌∙◌, ℕ, List, length, ap, sym, subst, arith}
use Rattle.std.proofs.lemmas.List.{with_items_is}
use Rattle.std.specs.Vec.{with_items}
use Rattle.circ_model.specs.Meaning.{Pair, row}
use Rattle.product_machine.specs.Eval.{IsFrame}
use Rattle.class_partition.specs.Classes.{HoldIn}
use Rattle.sim_words.specs.Lanes.{lane, lane_bit}
use Rattle.sim_words.proofs.Frames.{length_lane}
use Rattle.step_lanes.specs.Paths.{LaneFrames}
use Rattle.step_lanes.proofs.PathLanes.{lane_goes_on}
use Rattle.step_lanes.proofs.paths.StepLanes.step.Goals as goal

pub invariant_of-self : goal.invariant_of-self
invariant_of-self c =
    let s = c.self.inside in
    let was = c.self.invariant in
    let pair : Pair = s.product.now in
    let given = λ (b : ℕ). length_lane b c.args.inputs.now ∙ c.requires.inputs ∙ sym (ap (λ (v : LaneFrames). length v.pair.left.inputs) c.self.view_is) in
    let fits : length c.frame_words.new.words ≡ s.words.len = omega (arith, c.frame_words.ensures.size, was.places, c.as_mut_slice.ensures.len, ap length c.as_mut_slice.ensures.value) in
    let room : length c.next_words.new.state ≡ s.state.len = omega (arith, c.next_words.ensures.size, was.latches, c.as_mut_slice-2.ensures.len, ap length c.as_mut_slice-2.ensures.value) in
    let words = with_items_is s.words c.frame_words.new.words fits in
    let state = with_items_is s.state c.next_words.new.state room in
    record {
      pair = was.pair;
      classes = was.classes;
      places = ap length words ∙ c.frame_words.ensures.size;
      latches = ap length state ∙ c.next_words.ensures.size;
      lanes = λ b lt.
          let on : IsFrame pair (lane b s.state.items) (lane b c.args.inputs.now) = record { state_length = length_lane b s.state.items ∙ was.latches; input_length = given b } in
          let here = c.frame_words.ensures.lanes b lt ∙ ap (λ (ws : List ℕ). row pair (lane b ws) (lane b c.args.inputs.now)) c.as_slice-2.ensures.value in
          let there = c.next_words.ensures.next b lt (lane b s.state.items) (lane b c.args.inputs.now) on (ap (lane b) (c.as_slice-3.ensures.value ∙ words) ∙ here) in
          lane_goes_on pair s.depth s.partition.now s.frames (lane_bit b s.mask) (lane_bit b c.kept_lanes.result) (lane b s.words.items) (lane b s.state.items) (lane b c.args.inputs.now) (lane b (with_items s.words c.frame_words.new.words).items) (lane b (with_items s.state c.next_words.new.state).items)
          (was.lanes b lt) (given b) (ap (lane b) words ∙ here) (ap (lane b) state ∙ there)
          (c.kept_lanes.ensures.kept b lt)
          (λ still some few. subst (λ (n : ℕ). HoldIn n s.partition.now (lane b s.words.items)) was.places
          (subst (λ (ws : List ℕ). HoldIn (length ws) s.partition.now (lane b ws)) c.as_slice.ensures.value (c.kept_lanes.ensures.hold b lt still some few)))
          (λ on held. c.kept_lanes.ensures.all b lt on
          (λ some few. subst (λ (ws : List ℕ). HoldIn (length ws) s.partition.now (lane b ws)) (sym c.as_slice.ensures.value)
          (subst (λ (n : ℕ). HoldIn n s.partition.now (lane b s.words.items)) (sym was.places) (held some few))));
    }
