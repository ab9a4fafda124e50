use Rattle.std.proofs.Common.{◌≤◌, ◌∙◌, ℕ, sym, subst, length, get_or}
use Rattle.cnf_store.proofs.Cutting.{piece_at, piece_is}
use Rattle.cnf_store.proofs.arena.piece.Goals as goal

pub part-requires-clause-order : goal.part-requires-clause-order
part-requires-clause-order g c =
    let p = piece_at c.args.row.now 0 (length c.args.row.now) c.args.ends.now c.args.i c.requires.rises c.requires.within in
    subst (λ (k : ℕ). k ≤ get_or c.args.ends.now c.args.i 0) (sym c.start-from.ensures) p.order

pub part-requires-clause-within : goal.part-requires-clause-within
part-requires-clause-within g c =
    let p = piece_at c.args.row.now 0 (length c.args.row.now) c.args.ends.now c.args.i c.requires.rises c.requires.within in p.within

pub returns : goal.returns
returns g c = c.part.ensures ∙ piece_is c.args.row.now c.args.ends.now c.args.i c.start-from.result c.requires.rises c.requires.within c.start-from.ensures
