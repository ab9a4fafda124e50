use Rattle.std.proofs.Common.{◌≡◌, ◌+◌, subst, arith}
use Rattle.circ_model.specs.Meaning.{Pair, places_of}
use Rattle.class_partition.specs.Classes.{class_count}
use Rattle.class_partition.proofs.ClassCount.{count_most}
use Rattle.verdict_stamp.proofs.refine.greatest_classes.Goals as goal

pub loop-version-smaller : goal.loop-version-smaller
loop-version-smaller c =
    let pair : Pair = c.args.product.now in
    let count = subst (λ (p : Pair). class_count (places_of p) c.in_ok-next.next.classes ≡ class_count (places_of p) c.loop-version.version.classes + c.in_ok-next.added) c.loop-version.invariant.0 c.in_ok-next.ensures.count in
    omega (arith, count, count_most (places_of pair) c.in_ok-next.next.classes, c.if-added-eq0.false)
