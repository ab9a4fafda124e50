use Rattle.std.proofs.Common.{◌≡◌, ◌∙◌, ℕ, List, ap, arith, length}
use Rattle.std.proofs.lemmas.List.{with_items_is}
use Rattle.bit_rows.specs.Words.{row_bits}
use Rattle.bit_rows.proofs.Words.{same_words}
use Rattle.bit_rows.proofs.row.BitRow.copy_from.Goals as goal

pub copy_from_slice-requires : goal.copy_from_slice-requires
copy_from_slice-requires c =
    let s = c.self.inside in
    let o = c.other.inside in
    let e = same_words s.words.items o.words.items s.len o.len c.args.self.now c.args.other.now c.self.view_is c.other.view_is c.requires.same_length in
    omega (arith, e, c.self.invariant, c.other.invariant, ap length c.as_mut_slice.ensures.value, ap length c.as_slice.ensures.value)

pub returns : goal.returns
returns c =
    let s = c.self.inside in
    let o = c.other.inside in
    let e = same_words s.words.items o.words.items s.len o.len c.args.self.now c.args.other.now c.self.view_is c.other.view_is c.requires.same_length in
    let fits : length c.copy_from_slice.new.self ≡ s.words.len = omega (arith, c.copy_from_slice.ensures.len, c.as_mut_slice.ensures.len) in
    ap (λ (ws : List ℕ). row_bits ws s.len) (with_items_is s.words c.copy_from_slice.new.self fits ∙ c.copy_from_slice.ensures.after ∙ c.as_slice.ensures.value)
    ∙ ap (row_bits o.words.items) e ∙ c.other.view_is
