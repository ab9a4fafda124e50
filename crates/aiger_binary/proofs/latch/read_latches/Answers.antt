use Rattle.std.proofs.Common.{arith}
use Rattle.std.proofs.lemmas.Result.{err_from_is_err_and}
use Rattle.aiger_binary.specs.Binary.{latch_at}
use Rattle.aiger_binary.proofs.Loops.{rest_more, rest_fails, rest_done}
use Rattle.aiger_binary.proofs.latch.read_latches.Goals as goal

pub returns-in_err-at : goal.returns-in_err-at
returns-in_err-at c =
    let p = err_from_is_err_and c.from_residual.result c.from_residual.ensures.1 in
    rw (p.1, p.2) (rest_fails (latch_at c.args.bytes.now) c.args.count c.args.first c.loop-i.i (c.loop-i.builder, c.loop-i.at) _ _ c.loop-i.invariant c.loop-i-test.true c.in_err-at.ensures)

pub loop-i-preserved : goal.loop-i-preserved
loop-i-preserved c = rest_more (latch_at c.args.bytes.now) c.args.count c.args.first c.loop-i.i (c.loop-i.builder, c.loop-i.at) _ _ c.loop-i.invariant c.loop-i-test.true c.in_ok-at.ensures

pub returns : goal.returns
returns c = rest_done (latch_at c.args.bytes.now) c.args.count c.args.first c.loop-i.i (c.loop-i.builder, c.loop-i.at) _ c.loop-i.invariant (omega arith)
