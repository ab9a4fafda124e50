use Rattle.std.proofs.Common.{◌≡◌, ◌∙◌, ℕ, List, Bool, length, replicate, ap, sym, subst, rules}
use Rattle.class_partition.specs.Classes.{class_count}
use Rattle.class_partition.specs.Steps.{classes_of}
use Rattle.class_partition.proofs.Kept.{IsKept, count_none, count_one, one_kept}
use Rattle.class_partition.proofs.classes.Classes.one_class.Goals as goal
use Rattle.class_partition.proofs.classes.Classes.one_class.Goals.{then-n-eq0, else-n-eq0}

pub invariant_of-result : goal.invariant_of-result
invariant_of-result c =
    let n : ℕ = c.len-n.result in
    let phase : List Bool = c.copy_from.new.self in
    let len : length phase ≡ n = ap length c.copy_from.ensures ∙ sym c.len-n.ensures in
    let count : c.if-n-eq0.count ≡ class_count n (classes_of (replicate n 0) phase) = elim c.if-n-eq0.branch [
      | then-n-eq0 w ↦ w.count-is ∙ sym (count_none n phase w.if-n-eq0.true)
      | else-n-eq0 w ↦ w.count-is ∙ sym (count_one n phase w.if-n-eq0.false)
    ] in
    let kept : IsKept (replicate n 0) phase c.if-n-eq0.count = one_kept n c.if-n-eq0.count phase len count in
    subst (λ (l : List ℕ). IsKept l phase c.if-n-eq0.count) (sym (c.in_ok-least.ensures.items_if_clones_equal (search rules))) kept
