use Rattle.std.proofs.Common.{◌≡◌, length}
use Rattle.split_rows.proofs.words.free_among.Given as goal

abbrev pub invariant-loop-p : goal.invariant-loop-p
invariant-loop-p l = length l.free ≡ length l.initial.free
