use Rattle.std.proofs.Common.{◌≡◌, ◌<◌, ℕ, get_or}
use Rattle.product_machine.specs.Cells.{no_latch}
use Rattle.product_machine.proofs.same.same_latches.Given as goal

abbrev pub invariant-loop-i : goal.invariant-loop-i
invariant-loop-i l = (k : ℕ) → k < l.i → get_or l.a k no_latch ≡ get_or l.b k no_latch
