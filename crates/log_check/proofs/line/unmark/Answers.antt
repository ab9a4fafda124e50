use Rattle.std.proofs.Common.{rules, ◌≡◌, ◌≢◌, ℤ, pos, get_or, true, subst, arith, ◌∙◌, w32}
use mir.Val.{SFits}
use Rattle.std.proofs.lemmas.Int.{to_z-of_z}
use Rattle.log_check.specs.Marks.{mark_at}
use Rattle.log_check.proofs.Following.{unmark_next}
use Rattle.log_check.proofs.line.unmark.Goals as goal

pub loop-i-preserved : goal.loop-i-preserved
loop-i-preserved c =
    let x : ℤ = get_or c.args.assumed.now c.loop-i.i (pos 0) in
    let f : SFits w32 x = search rules in
    record {
      held = unmark_next c.loop-i.marks c.unmark_one.new.marks c.args.assumed.now c.loop-i.i (omega arith) c.loop-i.invariant.held
          (subst (λ (y : ℤ). (l : ℤ) → mark_at c.unmark_one.new.marks l ≡ true → (l ≢ y) × (mark_at c.loop-i.marks l ≡ true)) (to_z-of_z w32 x f) c.unmark_one.ensures.others);
      size = c.unmark_one.ensures.size ∙ c.loop-i.invariant.size;
    }
