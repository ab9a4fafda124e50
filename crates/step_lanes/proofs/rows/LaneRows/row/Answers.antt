use Rattle.std.proofs.Common.{◌≡◌, ◌∙◌, sym, ap, subst, length}
use Rattle.bit_rows.specs.Words.{row_bits}
use Rattle.circ_model.specs.Correspondence.{MaySplit}
use Rattle.sim_words.specs.Lanes.{lane}
use Rattle.step_lanes.specs.Rows.{AreLaneRows, MaskedRows}
use Rattle.step_lanes.proofs.rows.LaneRows.row.Goals as goal

pub returns-clause-may : goal.returns-clause-may
returns-clause-may c =
    let r : MaskedRows = c.args.self.now in
    let is : AreLaneRows r = subst AreLaneRows c.self.view_is c.self.invariant in
    let words : c.as_slice.result.now ≡ r.words = c.as_slice.ensures.value ∙ ap (λ (x : MaskedRows). x.words) c.self.view_is in
    let size : c.len.result ≡ length c.as_slice.result.now = cc in
    let row : c.from_words.result ≡ lane c.args.index r.words = c.from_words.ensures ∙ ap (row_bits c.in_ok-packed.packed.items) size ∙ c.in_ok-packed.ensures.bits ∙ ap (lane c.args.index) words in
    subst (MaySplit r.pair r.k) (sym row) (is.may c.args.index c.requires.lane c.requires.mask)
