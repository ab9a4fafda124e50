use Rattle.std.proofs.Common.{arith, length}
use Rattle.implied_clauses.proofs.Marks.{none_left, wiped}
use Rattle.implied_clauses.proofs.implied.wipe.Goals as goal

pub returns : goal.returns
returns c =
    let test = c.loop-l-test.false in
    wiped (length c.args.marks.now) c.loop-l.marks c.loop-l.invariant.size
    (λ l t. none_left c.args.listed.now c.loop-l.l-index l (omega arith) (c.loop-l.invariant.left l t))
