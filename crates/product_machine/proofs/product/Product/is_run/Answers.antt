use Rattle.std.proofs.Common.{refl, arith}
use Rattle.product_machine.proofs.Partners.{starts_run}
use Rattle.product_machine.proofs.product.Product.is_run.Goals as goal

pub returns : goal.returns
returns c = (λ _. starts_run c.args.self.now c.args.path.now c.requires (λ i lt. c.loop-i.invariant i (omega (arith, c.latches-i-end.ensures))), λ _. refl)
