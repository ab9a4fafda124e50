use Rattle.std.proofs.Common.{◌≡◌, ◌<◌, [], ℕ, length, get_or}
use Rattle.product_machine.proofs.product.Product.is_path.Given as goal

abbrev pub invariant-loop-t : goal.invariant-loop-t
invariant-loop-t l = (k : ℕ) → k < l.t → length (get_or l.path.inputs k []) ≡ length l.self.left.inputs
