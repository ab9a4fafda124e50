use mir.Val.{SFits}
use Rattle.std.proofs.lemmas.Int.{to_z-of_z}
use Rattle.std.proofs.Common.{rules, get_or, w32, ◌≡◌, ℤ, pos, List, subst, false, arith, sym, ◌∙◌}
use Rattle.std.specs.List.{All}
use Rattle.std.proofs.lemmas.List.{take_all}
use Rattle.std.proofs.lemmas.List.Elements.{All-more}
use Rattle.log_check.specs.Marks.{mark_at}
use Rattle.log_check.proofs.line.are_free.Goals as goal

pub loop-lit-preserved : goal.loop-lit-preserved
loop-lit-preserved c =
    let x : ℤ = get_or c.args.literals.now c.loop-lit.lit-index (pos 0) in
    let f : SFits w32 x = search rules in
    All-more (λ y. mark_at c.args.marks.now y ≡ false) c.args.literals.now c.loop-lit.lit-index (pos 0) (omega arith) c.loop-lit.invariant
    (subst (λ (y : ℤ). mark_at c.args.marks.now y ≡ false) (to_z-of_z w32 x f) (sym c.is_marked.ensures ∙ c.if-is_marked.false))

pub returns : goal.returns
returns c = subst (λ (xs : List ℤ). All (λ x. mark_at c.args.marks.now x ≡ false) xs) (take_all c.loop-lit.lit-index c.args.literals.now (omega arith)) c.loop-lit.invariant
