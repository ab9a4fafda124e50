use Rattle.std.proofs.Common.{◌≡◌, ◌∙◌, ◌+◌, ◌++◌, ◌∷◌, [], ℕ, List, length, length-append, sym, ap, subst, arith}
use Rattle.pair_pool.specs.declared.slots.Solved.{Solved}
use Rattle.pair_pool.specs.Outcomes.{IsOutcomeAt}
use Rattle.pair_pool.specs.Solutions.{AreInOrder}
use Rattle.pair_pool.proofs.Slotted.{order_more}
use Rattle.pair_pool.proofs.slots.solve_all.Goals as goal

pub loop-index-preserved : goal.loop-index-preserved
loop-index-preserved g c =
    let was = c.loop-index.invariant in
    let x : Solved = record { index = c.loop-index.index; outcome = c.in_ok-outcome.outcome } in
    let more : c.push.new.self.items ≡ c.loop-index.solved.items ++ x ∷ [] = c.in_ok-push.ensures.items in
    let grown : length c.push.new.self.items ≡ length c.loop-index.solved.items + 1 = ap (λ (s : List Solved). length s) more ∙ length-append c.loop-index.solved.items (x ∷ []) in
    let here = subst (λ (n : ℕ). IsOutcomeAt c.args.products.now c.args.k n x.outcome) (sym was.0) c.in_ok-outcome.ensures.outcome in
    let order = order_more c.args.products.now c.args.k c.loop-index.solved.items x was.1 (sym was.0) here in
    (omega (arith, grown, was.0), subst (AreInOrder c.args.products.now c.args.k) (sym more) order, c.in_ok-outcome.ensures.slots)
