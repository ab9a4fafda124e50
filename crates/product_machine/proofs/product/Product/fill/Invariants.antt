use Rattle.product_machine.proofs.OneRow.{IsWritten}
use Rattle.product_machine.proofs.product.Product.fill.Given as goal

abbrev pub invariant-loop-p : goal.invariant-loop-p
invariant-loop-p l = IsWritten l.self l.state l.inputs l.p l.values
