use Rattle.std.proofs.Common.{◌<◌, ℕ, []}
use Rattle.product_machine.specs.States.{MayStart}
use Rattle.tried_classes.proofs.plain.starts_run.Given as goal

abbrev pub invariant-loop-i : goal.invariant-loop-i
invariant-loop-i l = (q : ℕ) → q < l.i → MayStart l.product (record { start = l.start; inputs = [] }) q
