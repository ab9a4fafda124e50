use Rattle.std.proofs.Common.{◌∙◌, ℕ, Bool, subst}
use Rattle.std.proofs.lemmas.Option.{IfSome_then}
use Rattle.std.proofs.lemmas.Result.{IfOk-weaker}
use Rattle.class_partition.specs.Classes.{ArePartition}
use Rattle.sat_log.specs.Derivations.{IsAccepted}
use Rattle.log_check.specs.FirstBad.{Decides}
use Rattle.frame_unroll.specs.Unrolled.{formula_of}
use Rattle.used_pairs.specs.Logs.{base_asked, step_asked}
use Rattle.used_pairs.proofs.Listing.{used_together}
use Rattle.used_pairs.proofs.Passing.{passes_by}
use Rattle.used_pairs.proofs.logs.log_pairs.Goals as goal

pub returns-then-branch-clause-passes : goal.returns-then-branch-clause-passes
returns-then-branch-clause-passes c =
    let is = subst (λ (n : ℕ). ArePartition n c.args.classes.now) (c.len-places.ensures.places ∙ c.requires.places) c.len-places.ensures.partition in
    let accepted = subst (λ (b : Bool). Decides b (IsAccepted (formula_of (base_asked c.args.product.now c.args.k c.args.classes.now c.args.pair.member)) c.args.base.now)) c.if-branch.true c.in_ok-is_base.ensures in
    IfOk-weaker c.step_pairs.result _ _
    (λ found h. IfSome_then found h (λ l s. passes_by c.args.product.now c.args.k c.args.classes.now c.args.pair.member c.args.base.now l c.cells-cells.ensures.pair c.requires.some is c.requires.needed.0 accepted s))
    c.step_pairs.ensures.steps

pub returns-then-branch-clause-together : goal.returns-then-branch-clause-together
returns-then-branch-clause-together c =
    let is = subst (λ (n : ℕ). ArePartition n c.args.classes.now) c.len-places.ensures.places c.len-places.ensures.partition in
    IfOk-weaker c.step_pairs.result _ _
    (λ found h. IfSome_then found h (λ l s. used_together c.args.classes.now (step_asked c.args.product.now c.args.k c.args.classes.now c.args.pair.member) c.args.step.now l is s))
    c.step_pairs.ensures.used
