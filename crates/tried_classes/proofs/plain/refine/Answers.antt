use Rattle.std.proofs.Common.{◌∙◌, ◌<◌, ◌^◌, ℕ, sym, subst, arith}
use Rattle.circ_model.specs.Meaning.{places_of}
use Rattle.class_partition.specs.Classes.{ArePartition}
use Rattle.class_partition.proofs.ClassCount.{count_most}
use Rattle.tried_classes.proofs.Trying.{greatest_is}
use Rattle.tried_classes.proofs.plain.refine.Goals as goal

pub returns-then-added-eq0-clause-greatest : goal.returns-then-added-eq0-clause-greatest
returns-then-added-eq0-clause-greatest c =
    let partition = subst (λ (n : ℕ). ArePartition n c.sweep-added.new.classes) (c.len-places.ensures.places ∙ c.sweep-added.ensures.places) c.len-places.ensures.partition in
    greatest_is c.args.product.now c.sweep-added.new.classes partition c.sweep-added.ensures.keeps
    (λ number lt. c.sweep-added.ensures.whole c.if-added-eq0.true number (subst (λ (b : ℕ). number < 2 ^ b) (sym c.requires.bits) lt))

pub loop-classes-smaller : goal.loop-classes-smaller
loop-classes-smaller c = omega (arith, c.sweep-added.ensures.count, count_most (places_of c.args.product.now) c.sweep-added.new.classes, c.if-added-eq0.false)
