use Rattle.std.proofs.Common.{◌∙◌, ℕ, ap, subst, sym}
use Rattle.std.specs.Prelude.{IsTrue}
use Rattle.sim_words.specs.Lanes.{lane, lane_bit}
use Rattle.step_lanes.specs.Rows.{MaskedRows}
use Rattle.step_lanes.proofs.Copied.{rows_with_one}
use Rattle.step_lanes.proofs.rows.LaneRows.put.Goals as goal

pub invariant_of-self : goal.invariant_of-self
invariant_of-self c =
    let a = c.self.inside in
    let b = c.rows.inside in
    let r : MaskedRows = record { pair = a.product.now; k = a.depth; mask = a.mask; words = a.words.items } in
    let s : MaskedRows = record { pair = b.product.now; k = b.depth; mask = b.mask; words = b.words.items } in
    rows_with_one r s c.args.to c.args.from c.with_lane-self-inside.result c.copy_lane.new.words.items c.self.invariant c.rows.invariant
    (ap (λ (x : MaskedRows). x.pair) c.rows.view_is ∙ c.requires.pair ∙ sym (ap (λ (x : MaskedRows). x.pair) c.self.view_is))
    (ap (λ (x : MaskedRows). x.k) c.rows.view_is ∙ c.requires.k ∙ sym (ap (λ (x : MaskedRows). x.k) c.self.view_is))
    c.requires.from
    (subst (λ (m : ℕ). IsTrue (lane_bit c.args.from m)) (sym (ap (λ (x : MaskedRows). x.mask) c.rows.view_is)) c.requires.mask)
    c.copy_lane.ensures.size
    (c.copy_lane.ensures.row ∙ ap (lane c.args.from) c.as_slice.ensures.value)
    c.copy_lane.ensures.rest c.with_lane-self-inside.ensures.others
