use Rattle.std.proofs.Common.{◌≡◌, false, length, sym, ◌∙◌, arith}
use Rattle.dimacs_text.specs.Words.{header_of}
use Rattle.dimacs_text.specs.Texts.{text_of, is_passed}
use Rattle.dimacs_text.proofs.HeaderRead.{header_read}
use Rattle.dimacs_text.proofs.read.read_dimacs.Goals as goal

pub returns-then-not-is_passed : goal.returns-then-not-is_passed
returns-then-not-is_passed c =
    let e = c.in-Some.ensures in
    let n : is_passed c.in-Some.line.now ≡ false = sym c.is_passed.ensures ∙ c.if-not-is_passed.true in
    let i : header_of c.in-Some.line.now ≡ _ = sym c.header_of.ensures.is ∙ c.in-Some-header_of.is in
    header_read (length c.args.bytes.now) c.loop-line.at c.loop-line.rest.now c.in-Some.line.now c.in-Some.after.now (text_of c.args.bytes.now) c.in-Some-header_of.header _
    c.loop-line.invariant.due e.0 e.1 n i (omega (arith, c.loop-line.invariant.place, e.2)) c.read_formula.ensures
