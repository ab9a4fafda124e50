use Rattle.std.proofs.Common.{◌≡◌, ◌≢◌, List, [], ℕ, length, ap, sym, subst, arith}
use Rattle.circ_model.specs.Verdict.{IsVerdict, Undecided}
use Rattle.pair_pool.proofs.Verdicts.{equivalent_outcome, undecided_outcome}
use Rattle.pair_pool.proofs.solving.outcome_by.Goals as goal

pub returns-then-is_empty : goal.returns-then-is_empty
returns-then-is_empty c =
    let none : length c.in_ok-outputs.outputs.items ≡ 0 = grind (arith, c.is_empty.ensures, c.if-is_empty.true) in
    equivalent_outcome c.args.product.now c.args.k c.args.classes.now c.in_ok-outputs.outputs.items c.count.result c.requires.sound c.requires.partition c.requires.greatest c.in_ok-outputs.ensures none c.count.ensures

pub returns-else-is_empty : goal.returns-else-is_empty
returns-else-is_empty c =
    let some : c.in_ok-outputs.outputs.items ≢ [] =
    λ e. let none : length c.in_ok-outputs.outputs.items ≡ 0 = ap (λ (xs : List ℕ). length xs) e in absurd (grind (arith, c.is_empty.ensures, c.if-is_empty.false)) in
    subst (λ (u : List ℕ). IsVerdict c.args.product.now c.args.k c.args.k (Undecided c.count-else-is_empty.result u)) (sym c.new.ensures)
    (undecided_outcome c.args.product.now c.args.k c.args.classes.now c.in_ok-outputs.outputs.items c.count-else-is_empty.result c.requires.sound c.requires.partition c.requires.greatest c.requires.agree c.in_ok-outputs.ensures some c.count-else-is_empty.ensures)
