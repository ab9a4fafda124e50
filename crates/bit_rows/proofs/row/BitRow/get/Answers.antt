use Rattle.std.proofs.Common.{◌∙◌, ◌<◌, ◌/◌, ℕ, Bool, List, ap, sym, arith, get_or, false, ◌%◌, ◌==◌, length}
use Rattle.std.specs.Int.{bit_at}
use Rattle.std.proofs.lemmas.List.{get_or_default}
use Rattle.bit_rows.proofs.Words.{row_get, row_room}
use Rattle.bit_rows.proofs.row.BitRow.get.Goals as goal

pub index-requires : goal.index-requires
index-requires c =
    let s = c.self.inside in
    omega (arith, row_room s.words.items s.len c.args.i c.args.self.now c.self.view_is c.requires)

pub returns : goal.returns
returns c =
    let s = c.self.inside in
    let h = row_room s.words.items s.len c.args.i c.args.self.now c.self.view_is c.requires in
    let k : c.args.i / 64 < length s.words.items = omega arith in
    c.word_bit.ensures ∙ ap (λ (v : ℕ). bit_at v (c.args.i % 64) == 1) (c.index.ensures ∙ get_or_default s.words.items (c.args.i / 64) c.index.result.now 0 k)
    ∙ sym (row_get s.words.items s.len c.args.i h) ∙ ap (λ (bs : List Bool). get_or bs c.args.i false) c.self.view_is
