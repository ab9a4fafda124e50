use Rattle.std.proofs.Common.{arith, ap, length}
use Rattle.cnf_store.proofs.Cutting.{length_pieces}
use Rattle.cnf_store.proofs.arena.Arena.get.Goals as goal

pub piece-requires-clause-within : goal.piece-requires-clause-within
piece-requires-clause-within g c =
    let s = c.self.inside in
    omega (arith, length_pieces s.row.items 0 s.ends.items, ap length c.self.view_is, ap length c.as_slice-2.ensures.value)
