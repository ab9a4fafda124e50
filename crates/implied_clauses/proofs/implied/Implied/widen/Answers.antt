use Rattle.std.proofs.Common.{◌≡◌, ◌∙◌, ◌≤◌, ◌-◌, ◌++◌, ℕ, List, Bool, false, ap, arith, length, replicate, rules, sym, subst, take, vec_len}
use Rattle.std.proofs.lemmas.List.{length-replicate}
use Rattle.implied_clauses.specs.Implied.{Store}
use Rattle.implied_clauses.proofs.Stores.{widened}
use Rattle.implied_clauses.proofs.implied.Implied.widen.Goals as goal

pub invariant_of-self : goal.invariant_of-self
invariant_of-self c = rw c.in_err-resize.ensures.items c.self.invariant

pub invariant_of-self-2 : goal.invariant_of-self-2
invariant_of-self-2 c =
    let marks : List Bool = c.self.inside.marks.items in
    let le : length marks ≤ c.args.codes = subst (λ (s : Store). s.codes ≤ c.args.codes) (sym c.self.view_is) c.requires.more in
    let many : vec_len c.self.inside.marks ≡ length marks = search rules in
    let all : c.resize.new.self.items ≡ replicate c.args.codes false =
    c.in_ok-resize.ensures.items ∙ ap (λ (k : ℕ). take c.args.codes marks ++ replicate (c.args.codes - k) false) many ∙ widened c.args.codes marks le c.self.invariant.4 in
    let size : length c.resize.new.self.items ≡ c.args.codes = ap length all ∙ length-replicate c.args.codes false in
    (omega (arith, size, c.ranges.codes), c.self.invariant.1, (λ k d lt j e l. omega (arith, size, c.self.invariant.2 k d lt j e l)), c.self.invariant.3, all ∙ ap (λ (n : ℕ). replicate n false) (sym size))
