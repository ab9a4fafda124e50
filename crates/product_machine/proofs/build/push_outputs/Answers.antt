use Rattle.std.proofs.Common.{◌∙◌, ◌++◌, ◌∷◌, [], ℕ, List, ap, ap₂, sym, arith, slice_index, zero-add}
use Rattle.std.proofs.lemmas.List.{get_or_default}
use Rattle.std.proofs.lemmas.List.FromFn.{map-range_with_len_more}
use Rattle.circ_model.specs.Meaning.{literal_by}
use Rattle.product_machine.specs.Tables.{says}
use Rattle.product_machine.proofs.build.push_outputs.Goals as goal

pub loop-j-preserved : goal.loop-j-preserved
loop-j-preserved c =
    let f : ℕ → ℕ × ℕ = λ j. (literal_by (says c.args.left_table.now) (slice_index c.args.left.now j), literal_by (says c.args.right_table.now) (slice_index c.args.right.now j)) in
    c.in_ok-push.ensures.items ∙ ap₂ (λ (xs : List (ℕ × ℕ)) (x : ℕ × ℕ). xs ++ x ∷ []) c.loop-j.invariant (ap₂ (λ (a b : ℕ). (a, b))
    (c.translated-first.ensures ∙ ap (literal_by (says c.args.left_table.now)) (c.index-left-j.is ∙ get_or_default c.args.left.now c.loop-j.j c.index-left-j.result 0 c.loop-j-test.true))
    (c.translated-second.ensures ∙ ap (literal_by (says c.args.right_table.now)) (c.index-right-j.is ∙ get_or_default c.args.right.now c.loop-j.j c.index-right-j.result 0 (omega (arith, c.requires.same, c.loop-j-test.true)))))
    ∙ sym (map-range_with_len_more f 0 c.loop-j.j c.loop-j.j (zero-add c.loop-j.j))
