use Rattle.std.proofs.Common.{◌∙◌, List, ℕ, ap, arith}
use Rattle.trace_witness.specs.Lines.{lines_of}
use Rattle.trace_witness.specs.Texts.{trace_of}
use Rattle.trace_witness.proofs.Again.{trace_again}
use Rattle.trace_witness.proofs.write.write_trace.Goals as goal

pub returns-clause-again : goal.returns-clause-again
returns-clause-again c =
    ap (λ (text : List ℕ). trace_of c.args.product.now (lines_of text)) c.in_ok-text.ensures
    ∙ trace_again c.args.product.now c.args.output c.args.run.now c.requires.run c.requires.output (omega (arith, c.ranges.output.fits))
