use Rattle.std.proofs.Common.{◌-◌, arith}
use Rattle.std.proofs.lemmas.Nat.{and_le_r}
use Rattle.and_graph.proofs.hashing.slot_in.Goals as goal

pub returns : goal.returns
returns c = omega (arith, and_le_r c.args.hash (c.args.slots - 1))
