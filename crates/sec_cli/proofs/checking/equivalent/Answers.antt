use Rattle.std.proofs.Common.{◌∙◌, ℕ, ap, ap₂}
use Rattle.class_partition.specs.Classes.{class_count}
use Rattle.run_texts.specs.Lines.{equivalent_line}
use Rattle.command_line.specs.Asked.{options_asked}
use Rattle.sec_cli.proofs.Verdicts.{equivalent_answer}
use Rattle.sec_cli.proofs.checking.equivalent.Goals as goal

pub returns-clause-answer : goal.returns-clause-answer
returns-clause-answer c =
    let pair = c.args.product.now in
    let classes = c.args.classes.now in
    let k = c.args.c.now.k in
    let count = c.count.ensures ∙ ap (λ (n : ℕ). class_count n classes) c.requires.partition.least_len in
    let line = c.in_ok-text.ensures.items ∙ c.as_bytes.ensures.value ∙ c.in_ok-line.ensures ∙ ap₂ (equivalent_line k) c.len.ensures.places count in
    equivalent_answer pair (options_asked c.args.c.now) classes c.args.journal _ _ _ c.requires.sound c.requires.partition c.requires.greatest c.requires.paired c.in_ok-file.ensures line c.in_ok-push_lines.ensures
