use Rattle.std.proofs.Common.{◌≡◌, ℕ, refl, subst, arith}
use Rattle.class_partition.specs.Classes.{ArePartition}
use Rattle.refine_board.proofs.Judged.{same_partition}
use Rattle.refine_board.proofs.same.same_classes.Goals as goal

pub returns : goal.returns
returns c = (λ _. same_partition c.len-n.result c.args.a.now c.args.b.now c.len-n.ensures.partition (subst (λ (k : ℕ). ArePartition k c.args.b.now) (let e : c.len.result ≡ c.len-n.result = omega arith in e) c.len.ensures.partition) (λ q lt. c.loop-p.invariant.least q (omega arith)) (λ q lt. c.loop-p.invariant.phase q (omega arith)), λ _. refl)
