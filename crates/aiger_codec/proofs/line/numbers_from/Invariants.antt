use Rattle.std.proofs.Common.{take}
use Rattle.aiger_codec.specs.Lines.{numbers_at}
use Rattle.aiger_codec.proofs.Numbers.{Steps}
use Rattle.aiger_codec.proofs.line.numbers_from.Given as goal

abbrev pub invariant-loop-i : goal.invariant-loop-i
invariant-loop-i l = Steps l.bytes (take l.i l.into) l.most l.i l.at (numbers_at l.most l.bytes l.start)
