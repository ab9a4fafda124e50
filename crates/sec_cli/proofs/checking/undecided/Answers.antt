use Rattle.std.proofs.Common.{◌∙◌, ◌++◌, ◌∷◌, [], ℕ, List, ap, ap₂}
use Rattle.class_partition.specs.Classes.{class_count}
use Rattle.run_texts.specs.Lines.{undecided_head, with_commas}
use Rattle.command_line.specs.Asked.{options_asked}
use Rattle.sec_cli.proofs.Verdicts.{undecided_answer}
use Rattle.sec_cli.proofs.checking.undecided.Goals as goal

pub returns-clause-answer : goal.returns-clause-answer
returns-clause-answer c =
    let pair = c.args.product.now in
    let classes = c.args.classes.now in
    let k = c.args.c.now.k in
    let numbers : List ℕ = with_commas c.args.outputs.now in
    let count = c.count.ensures ∙ ap (λ (n : ℕ). class_count n classes) c.requires.partition.least_len in
    let head = c.in_ok-text.ensures.items ∙ c.as_bytes.ensures.value ∙ c.in_ok-line.ensures ∙ ap₂ (undecided_head k) c.len.ensures.places count in
    let line = c.in_ok-push.ensures.items ∙ ap (λ (xs : List ℕ). xs ++ 10 ∷ []) (c.in_ok-push_numbers.ensures ∙ ap (λ (xs : List ℕ). xs ++ numbers) head) in
    undecided_answer pair (options_asked c.args.c.now) classes c.args.journal c.args.outputs.now _ _ _ c.requires.sound c.requires.partition c.requires.greatest c.requires.agree c.requires.some c.requires.left_out line c.in_ok-push_lines.ensures
