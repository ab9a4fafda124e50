use Rattle.std.proofs.Common.{◌≤◌, ℕ, arith}
use Rattle.kept_solver.proofs.Questions.{one_more, whole}
use Rattle.kept_solver.proofs.solver.most_of.Goals as goal

pub loop-l-preserved : goal.loop-l-preserved
loop-l-preserved c =
    one_more (λ (l : ℕ). l ≤ c.greater-most.result) c.args.clause.now c.loop-l.l-index 0 c.loop-l-test.true (λ k d lt. let was = c.loop-l.invariant k d lt in let left = c.greater-most.ensures.left in omega arith) c.greater-most.ensures.right

pub returns : goal.returns
returns c = whole (λ (l : ℕ). l ≤ c.loop-l.most) c.args.clause.now c.loop-l.l-index c.loop-l-test.false c.loop-l.invariant
