use Rattle.std.proofs.Common.{◌∙◌, ◌<◌, ◌/◌, ℕ, Bool, List, ap, arith, set, length}
use Rattle.std.specs.Int.{bit_at}
use Rattle.std.proofs.lemmas.List.{get_or_default}
use Rattle.bit_rows.proofs.Words.{row_set, row_room}
use Rattle.bit_rows.proofs.row.BitRow.set.Goals as goal

pub index-requires : goal.index-requires
index-requires c =
    let s = c.self.inside in
    omega (arith, row_room s.words.items s.len c.args.i c.args.self.now c.self.view_is c.requires)

pub index_mut-requires : goal.index_mut-requires
index_mut-requires c =
    let s = c.self.inside in
    omega (arith, row_room s.words.items s.len c.args.i c.args.self.now c.self.view_is c.requires)

pub returns : goal.returns
returns c =
    let s = c.self.inside in
    let h = row_room s.words.items s.len c.args.i c.args.self.now c.self.view_is c.requires in
    let k : c.args.i / 64 < length s.words.items = omega arith in
    let at = c.index.ensures ∙ get_or_default s.words.items (c.args.i / 64) c.index.result.now 0 k in
    row_set s.words.items s.len c.args.i c.with_bit-word.result c.args.bit c.self.invariant h c.with_bit-word.ensures.written
    (λ b lt ne. c.with_bit-word.ensures.others b lt ne ∙ ap (λ (v : ℕ). bit_at v b) at)
    ∙ ap (λ (bs : List Bool). set bs c.args.i c.args.bit) c.self.view_is
