use Rattle.std.proofs.Common.{◌≡◌, ◌++◌, drop}
use Rattle.aiger_codec.specs.Writing.{lines_text, latch_text}
use Rattle.aiger_codec.proofs.write.push_latches.Given as goal

abbrev pub invariant-loop-i : goal.invariant-loop-i
invariant-loop-i l = l.into.items ++ lines_text latch_text (drop l.i l.latches) ≡ l.initial.into.items ++ lines_text latch_text l.latches
