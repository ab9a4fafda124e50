use Rattle.std.proofs.Common.{◌∙◌, ℕ, ap, sym, subst}
use Rattle.class_partition.specs.Classes.{Classes, needed}
use Rattle.verdict_stamp.specs.declared.used.Used.TheVariants.{Known}
use Rattle.verdict_stamp.specs.Versions.{IsPassed}
use Rattle.verdict_stamp.proofs.KnownPasses.{known_is, paired_by}
use Rattle.verdict_stamp.proofs.verdict.Verdict.known_own.Goals as goal

pub invariant_of-result : goal.invariant_of-result
invariant_of-result c =
    let v = c.args.version.now in
    let n = c.args.known.now in
    let m : ℕ = c.args.pair.member in
    let literals = c.needed-a.ensures ∙ ap (λ (cs : Classes). needed cs m) c.classes.ensures.classes in
    let paired = paired_by n v m c.classes-2.result.now c.needed-a.result c.paired.result c.classes-2.ensures.classes literals c.if-not-paired.false c.paired.ensures in
    (subst (λ (j : ℕ). IsPassed (record { version = v; member = m; used = Known j })) (sym c.k.ensures) (known_is n v m c.product-product.ensures.kept c.classes.ensures.kept c.requires.below c.requires.needed paired), ap Known (c.k-2.ensures ∙ sym c.k.ensures))
