use Rattle.std.proofs.Common.{arith, false}
use Rattle.std.proofs.lemmas.List.{ext_get_or}
use Rattle.sat_core.proofs.edge.bits_of.Goals as goal

pub returns : goal.returns
returns c = ext_get_or false c.loop-i.row c.args.bits.now c.loop-i.invariant.size (λ k lt. c.loop-i.invariant.each k (omega (arith, c.loop-i.invariant.size)))
