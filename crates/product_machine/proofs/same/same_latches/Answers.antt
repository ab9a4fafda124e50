use Rattle.std.proofs.Common.{refl, arith}
use Rattle.std.proofs.lemmas.List.{ext_get_or}
use Rattle.product_machine.specs.Cells.{no_latch}
use Rattle.product_machine.proofs.same.same_latches.Goals as goal

pub returns : goal.returns
returns c = (λ _. ext_get_or no_latch c.args.a.now c.args.b.now (omega arith) (λ i lt. c.loop-i.invariant i (omega arith)), λ _. refl)
