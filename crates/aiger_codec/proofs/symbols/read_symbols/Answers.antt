use Rattle.std.proofs.Common.{inl, inr, sym, arith}
use Rattle.std.proofs.lemmas.Result.{err_from_is_err_and}
use Rattle.aiger_codec.proofs.SymbolSteps.{symbol_after, left_more, left_fails, left_done}
use Rattle.aiger_codec.proofs.symbols.read_symbols.Goals as goal

pub returns-in_err-at : goal.returns-in_err-at
returns-in_err-at c =
    let p = err_from_is_err_and c.from_residual.result c.from_residual.ensures.1 in
    rw (p.1, p.2) (left_fails c.args.counts.now c.args.bytes.now c.lines.at _ _ c.lines.invariant c.lines-test.true c.if-bytes-at-ne99.true (sym c.in_err-at.ensures))

pub lines-smaller : goal.lines-smaller
lines-smaller c = let h = symbol_after c.args.counts.now c.args.bytes.now c.lines.at c.in_ok-at.at (sym c.in_ok-at.ensures) in omega arith

pub lines-preserved : goal.lines-preserved
lines-preserved c = left_more c.args.counts.now c.args.bytes.now c.lines.at c.in_ok-at.at _ c.lines.invariant c.lines-test.true c.if-bytes-at-ne99.true (sym c.in_ok-at.ensures)

pub returns-else-bytes-at-ne99 : goal.returns-else-bytes-at-ne99
returns-else-bytes-at-ne99 c = left_done c.args.counts.now c.args.bytes.now c.lines.at _ c.lines.invariant (inr c.if-bytes-at-ne99.false)

pub returns-after-lines : goal.returns-after-lines
returns-after-lines c = left_done c.args.counts.now c.args.bytes.now c.lines.at _ c.lines.invariant (inl c.lines-test.false)
