use Rattle.std.proofs.Common.{◌≡◌, ◌∙◌, ◌++◌, ◌∷◌, [], sym, subst, arith}
use Rattle.std.specs.Prelude.{Option, Some, List, ℕ}
use Rattle.circ_model.specs.Meaning.{Path}
use Rattle.induction_base.specs.Fixing.{IsLower}
use Rattle.induction_base.proofs.Fixing.{fixed_found, fixed_high, fixed_low, literals_with, raised}
use Rattle.induction_base.proofs.lexicographic.RunSearch.fix_bit.Goals as goal

pub returns-then-not-is_one-clause-kept : goal.returns-then-not-is_one-clause-kept
returns-then-not-is_one-clause-kept c =
    let d = c.args.self.now.given.now in
    fixed_low c.args.self.now.product.now d.frame d.output c.args.i c.args.fixed.now.items c.push.new.self.items c.args.run.now c.zero_at-frame.result c.requires.fixed c.zero_at-frame.ensures c.in_ok-push.ensures.items (sym c.if-not-is_one.ensures)

pub lower-requires-clause-literals : goal.lower-requires-clause-literals
lower-requires-clause-literals c =
    let d = c.args.self.now.given.now in
    literals_with c.args.self.now.product.now d.frame d.output c.args.i c.args.fixed.now.items c.as_slice.result.now c.args.run.now c.zero_at-frame.result c.requires.fixed c.zero_at-frame.ensures (c.as_slice.ensures.value ∙ c.in_ok-push.ensures.items)

pub returns-in-Some-clause-found : goal.returns-in-Some-clause-found
returns-in-Some-clause-found c =
    let d = c.args.self.now.given.now in
    let lower = subst (λ (o : Option Path). IsLower c.args.self.now.product.now d.frame d.output c.as_slice.result.now o) c.in-Some.is c.in_ok-path.ensures in
    fixed_found c.args.self.now.product.now d.frame d.output c.args.i c.args.fixed.now.items c.push.new.self.items c.args.run.now c.in-Some.path c.zero_at-frame.result c.requires.fixed c.zero_at-frame.ensures c.in_ok-push.ensures.items
    (subst (λ (xs : List (ℕ × ℕ)). IsLower c.args.self.now.product.now d.frame d.output xs (Some c.in-Some.path)) c.as_slice.ensures.value lower)

pub returns-in_ok-push-in-None-clause-kept : goal.returns-in_ok-push-in-None-clause-kept
returns-in_ok-push-in-None-clause-kept c =
    let d = c.args.self.now.given.now in
    let zero = c.zero_at-frame.result in
    let lower = subst (λ (o : Option Path). IsLower c.args.self.now.product.now d.frame d.output c.as_slice.result.now o) c.in-None.is c.in_ok-path.ensures in
    fixed_high c.args.self.now.product.now d.frame d.output c.args.i c.args.fixed.now.items c.as_slice.result.now c.push-in-None.new.self.items c.args.run.now zero c.requires.fixed c.zero_at-frame.ensures (c.as_slice.ensures.value ∙ c.in_ok-push.ensures.items) lower (sym c.if-not-is_one.ensures)
    (subst (λ (h : ℕ). c.push-in-None.new.self.items ≡ c.args.fixed.now.items ++ (zero.0, h) ∷ []) c.not.ensures
    (raised c.args.fixed.now.items c.push.new.self.items c.truncate.new.self.items c.push-in-None.new.self.items zero (zero.0, c.not.result) c.len-held.result (omega (arith, c.len-held.ensures)) c.in_ok-push.ensures.items c.truncate.ensures.items c.in_ok-push-in-None.ensures.items))
