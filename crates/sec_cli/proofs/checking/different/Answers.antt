use Rattle.std.proofs.Common.{◌∙◌, ◌++◌, ℕ, List, ap₂}
use Rattle.command_line.specs.Asked.{options_asked}
use Rattle.sec_cli.proofs.Verdicts.{different_answer}
use Rattle.sec_cli.proofs.checking.different.Goals as goal

pub returns-clause-answer : goal.returns-clause-answer
returns-clause-answer c =
    let line = c.in_ok-text.ensures.items ∙ c.as_bytes.ensures.value ∙ c.in_ok-line.ensures in
    different_answer c.args.product.now (options_asked c.args.c.now) c.in_ok-diff.diff _ _ _ c.in_ok-diff.ensures c.in_ok-trace.ensures.text (c.in_ok-extend_from_slice.ensures.items ∙ ap₂ (λ (xs ys : List ℕ). xs ++ ys) line c.as_slice.ensures.value)
