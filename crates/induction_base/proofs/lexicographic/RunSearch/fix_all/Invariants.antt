use Rattle.induction_base.specs.Fixing.{IsFixed}
use Rattle.induction_base.proofs.lexicographic.RunSearch.fix_all.Given as goal

abbrev pub invariant-loop-i : goal.invariant-loop-i
invariant-loop-i l = IsFixed l.self.product.now l.self.given.now.frame l.self.given.now.output l.i l.fixed.items l.run
