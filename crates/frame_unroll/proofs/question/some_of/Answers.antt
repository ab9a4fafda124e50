use Rattle.std.proofs.Common.{◌∙◌, ◌+◌, ◌++◌, ◌∷◌, [], ℤ, List, true, ap₂, sym, zero-add, rules, FitsSigned, w32}
use Rattle.std.proofs.lemmas.List.FromFn.{map-range_with_len_more}
use Rattle.std.proofs.lemmas.Int.{to_z-of_z}
use Rattle.frame_unroll.specs.Frames.{cnf_literal}
use Rattle.frame_unroll.proofs.question.some_of.Goals as goal

pub loop-i-preserved : goal.loop-i-preserved
loop-i-preserved c =
    let f : FitsSigned w32 c.cnf_literal.result = search rules in
    c.in_ok-push.ensures.items ∙ ap₂ (λ (l : List ℤ) (x : ℤ). l ++ x ∷ []) c.loop-i.invariant (to_z-of_z w32 c.cnf_literal.result f ∙ c.cnf_literal.ensures.value)
    ∙ sym (map-range_with_len_more (λ i. cnf_literal true (c.args.d + i)) 0 c.loop-i.i c.loop-i.i (zero-add c.loop-i.i))
