use Rattle.std.proofs.Common.{◌≡◌, ◌∙◌, ◌&&◌, ℕ, List, Bool, ap, subst}
use Rattle.circ_model.specs.Meaning.{signed}
use Rattle.class_partition.specs.Classes.{relative}
use Rattle.sim_words.specs.Lanes.{lane, lane_bit}
use Rattle.sim_words.proofs.Lanes.{lane_and}
use Rattle.step_lanes.specs.Rows.{MaskedRows}
use Rattle.step_lanes.proofs.Apart.{IsPhased, first_apart}
use Rattle.step_lanes.proofs.rows.LaneRows.apart.Goals as goal

pub returns : goal.returns
returns c =
    let r : MaskedRows = c.args.self.now in
    let classes = c.args.classes.now in
    let m : ℕ = c.args.pair.member in
    let words : c.as_slice-words.result.now ≡ r.words = c.as_slice-words.ensures.value ∙ ap (λ (x : MaskedRows). x.words) c.self.view_is in
    let mask : c.self.inside.mask ≡ r.mask = ap (λ (x : MaskedRows). x.mask) c.self.view_is in
    first_apart r c.args.among classes m c.phased_word-least.result c.phased_word-member.result c.apart_lanes.result c.first_lane.result
    (subst (λ (p : ℕ). IsPhased r classes p c.phased_word-least.result) c.requires.rep (λ b lt. c.phased_word-least.ensures b lt ∙ ap (λ (ws : List ℕ). relative classes (lane b ws) c.args.pair.rep) words))
    (λ b lt. c.phased_word-member.ensures b lt ∙ ap (λ (ws : List ℕ). relative classes (lane b ws) m) words)
    (λ b. c.apart_lanes.ensures b ∙ ap (λ (z : Bool). signed (lane_bit b c.phased_word-member.result) (lane_bit b c.phased_word-least.result) && z) (lane_and b c.self.inside.mask c.args.among ∙ ap (λ (k : ℕ). lane_bit b k && lane_bit b c.args.among) mask))
    c.first_lane.ensures
