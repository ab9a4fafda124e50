use Rattle.std.proofs.Common.{◌<◌, ℕ}
use Rattle.product_machine.specs.States.{MayStart}
use Rattle.product_machine.proofs.product.Product.is_run.Given as goal

abbrev pub invariant-loop-i : goal.invariant-loop-i
invariant-loop-i l = (k : ℕ) → k < l.i → MayStart l.self l.path k
