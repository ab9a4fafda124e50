use Rattle.std.proofs.Common.{◌≡◌, ◌∙◌, ◌+◌, ℕ, Bool, [], slice_index, eq-eqb, ne_eqb, sym, ap, subst, arith}
use Rattle.class_partition.specs.Classes.{is_least}
use Rattle.class_partition.specs.Steps.{classes_of}
use Rattle.class_partition.proofs.Counting.{one}
use Rattle.class_partition.proofs.Tallying.{Tallied, tally}
use Rattle.class_partition.proofs.least.count_least.Goals as goal
use Rattle.class_partition.proofs.least.count_least.Goals.{then-least-p, else-least-p}

pub overflow_add-count : goal.overflow_add-count
overflow_add-count c = omega (arith, c.loop-p.invariant.some, c.loop-p-test.true, c.requires)

pub loop-p-preserved : goal.loop-p-preserved
loop-p-preserved c =
    let least = c.args.least.now in
    let e : c.loop-p.count + one (is_least (classes_of least []) c.loop-p.p) ≡ c.if-least-p.count = elim c.if-least-p.branch [
      | then-least-p w ↦ ap (λ (b : Bool). c.loop-p.count + one b) (eq-eqb (slice_index least c.loop-p.p) c.loop-p.p w.if-least-p.true) ∙ sym w.count-is
      | else-least-p w ↦ ap (λ (b : Bool). c.loop-p.count + one b) (ne_eqb (slice_index least c.loop-p.p) c.loop-p.p w.if-least-p.false) ∙ omega (arith, w.count-is)
    ] in
    subst (λ (n : ℕ). Tallied least n (c.loop-p.p + 1)) e (tally least c.loop-p.count c.loop-p.p c.loop-p-test.true c.loop-p.invariant)
