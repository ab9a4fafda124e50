use Rattle.std.proofs.Common.{sym, arith}
use Rattle.plain_text.proofs.Sizes.{too_big}
use Rattle.plain_text.proofs.words.number_word.Goals as goal

pub returns-then-next-limit-clause-is : goal.returns-then-next-limit-clause-is
returns-then-next-limit-clause-is c = sym (too_big c.args.limit c.args.word.now c.loop-digit.value c.loop-digit.digit-index c.loop-digit.invariant.value (omega arith) (omega arith))
