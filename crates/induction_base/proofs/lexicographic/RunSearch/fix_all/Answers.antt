use Rattle.std.proofs.Common.{◌≡◌, ◌∙◌, ◌+◌, ◌*◌, ℕ, ap, ap₂, sym, subst, arith}
use Rattle.std.specs.Prelude.{Option, IfSome, IfNone}
use Rattle.circ_model.specs.Meaning.{Path}
use Rattle.induction_base.specs.declared.difference.Diff.{Diff}
use Rattle.induction_base.specs.Fixing.{IsFixed}
use Rattle.induction_base.proofs.Fixing.{fixed_all}
use Rattle.induction_base.proofs.lexicographic.RunSearch.fix_all.Goals as goal
use Rattle.induction_base.proofs.lexicographic.RunSearch.fix_all.Goals.{in-Some, in_default}

pub loop-i-preserved : goal.loop-i-preserved
loop-i-preserved c =
    let d = c.args.self.now.given.now in
    elim c.match-branch-4.branch [
      | in-Some w ↦
          subst (λ (r : Path). IsFixed c.args.self.now.product.now d.frame d.output (c.loop-i.i + 1) c.fix_bit.new.fixed.items r) (sym w.run-is)
          (subst (λ (o : Option Path). IfSome o (IsFixed c.args.self.now.product.now d.frame d.output (c.loop-i.i + 1) c.fix_bit.new.fixed.items)) w.in-Some.is c.in_ok-path.ensures.found)
      | in_default w ↦
          subst (λ (r : Path). IsFixed c.args.self.now.product.now d.frame d.output (c.loop-i.i + 1) c.fix_bit.new.fixed.items r) (sym w.run-is)
          (subst (λ (o : Option Path). IfNone o (IsFixed c.args.self.now.product.now d.frame d.output (c.loop-i.i + 1) c.fix_bit.new.fixed.items c.loop-i.run)) w.in_default.is c.in_ok-path.ensures.kept)
    ]

pub returns : goal.returns
returns c =
    let d = c.args.self.now.given.now in
    let up = c.loop-i.auto.i-end in
    let no = c.loop-i-test.false in
    let bits = subst (λ (m : ℕ). c.loop-i.i ≡ c.latches.result + (m + 1) * c.inputs.result) (ap (λ (x : Diff). x.frame) c.given.view_is) (omega arith) in
    fixed_all c.args.self.now.product.now d.frame d.output c.loop-i.i c.loop-i.fixed.items c.loop-i.run (bits ∙ ap₂ (λ (l w : ℕ). l + (d.frame + 1) * w) c.latches.ensures c.inputs.ensures) c.loop-i.invariant
