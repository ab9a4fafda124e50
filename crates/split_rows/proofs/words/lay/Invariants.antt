use Rattle.std.proofs.Common.{◌≡◌, length}
use Rattle.split_rows.proofs.words.lay.Given as goal

abbrev pub invariant-loop-bit : goal.invariant-loop-bit
invariant-loop-bit l = (length l.start ≡ length l.initial.start) × (length l.inputs ≡ length l.initial.inputs)
