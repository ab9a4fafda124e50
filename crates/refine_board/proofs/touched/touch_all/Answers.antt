use Rattle.std.proofs.Common.{◌∙◌, ◌+◌, ◌++◌, ◌∷◌, [], ℕ, List, ap, sym, arith}
use Rattle.std.specs.List.{range_with_len}
use Rattle.refine_board.proofs.Pending.{range_more}
use Rattle.refine_board.proofs.touched.touch_all.Goals as goal

pub push_reserved-requires : goal.push_reserved-requires
push_reserved-requires c = omega (arith, c.loop-p-test.true, c.loop-p.invariant.1, c.loop-p.invariant.2, c.requires)

pub loop-p-preserved : goal.loop-p-preserved
loop-p-preserved c =
    let p : ℕ = c.loop-p.p in
    let more = c.push_reserved.ensures in (
      more.items ∙ ap (λ (l : List ℕ). l ++ p ∷ []) c.loop-p.invariant.0 ∙ sym (range_more 0 p ∙ ap (λ (n : ℕ). range_with_len 0 p ++ n ∷ []) (omega arith)),
      more.len ∙ ap (λ (n : ℕ). n + 1) c.loop-p.invariant.1,
      more.capacity ∙ c.loop-p.invariant.2,
    )
