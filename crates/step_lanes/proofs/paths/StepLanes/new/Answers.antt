use Rattle.std.proofs.Common.{◌≡◌, ◌∙◌, ℕ, length, ap, subst, arith}
use Rattle.circ_model.specs.Meaning.{latches_of}
use Rattle.class_partition.specs.Classes.{ArePartition}
use Rattle.sim_words.specs.Lanes.{lane, lane_bit}
use Rattle.sim_words.proofs.Frames.{length_lane}
use Rattle.sim_words.proofs.Lanes.{lane_ones}
use Rattle.step_lanes.proofs.PathLanes.{lane_begins}
use Rattle.step_lanes.proofs.paths.StepLanes.new.Goals as goal

pub invariant_of-result : goal.invariant_of-result
invariant_of-result c =
    let size : length c.in_ok-state.state.items ≡ latches_of c.args.product.now = ap length c.in_ok-state.ensures.items ∙ c.requires.start in
    record {
      pair = c.cells-cells.ensures.pair;
      classes = subst (λ (m : ℕ). ArePartition m c.args.classes.now) (c.len-places.ensures.places ∙ c.requires.places) c.len-places.ensures.partition;
      places = omega (arith, c.in_ok-words.ensures.len, c.in_ok-words.words.ok.0, c.len.ensures.places);
      latches = size;
      lanes = λ b lt. lane_begins c.args.product.now c.args.k c.args.classes.now (lane_bit b 18446744073709551615) (lane b c.in_ok-words.words.items) (lane b c.in_ok-state.state.items) (length_lane b c.in_ok-state.state.items ∙ size) (lane_ones b lt);
    }
