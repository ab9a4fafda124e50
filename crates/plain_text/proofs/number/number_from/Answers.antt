use Rattle.std.proofs.Common.{arith}
use Rattle.plain_text.proofs.Digits.{reads_digit}
use Rattle.plain_text.proofs.number.number_from.Goals as goal

pub loop-end-preserved : goal.loop-end-preserved
loop-end-preserved c =
    reads_digit c.args.bytes.now c.args.start c.loop-end.end c.loop-end.value _ c.loop-end.invariant (omega arith) (omega arith) (omega arith) (omega arith)
