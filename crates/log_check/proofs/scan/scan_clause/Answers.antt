use Rattle.std.proofs.Common.{refl, sym, subst, arith, rules, ap, ◌∙◌, ◌+◌, ◌≡◌, ℤ, pos, neg_ℤ, get_or, take, to_z, w32}
use mir.Val.{SFits}
use Rattle.std.proofs.lemmas.Int.{ints, to_z-of_z}
use Rattle.log_check.specs.Marks.{mark_at}
use Rattle.log_check.proofs.Scanning.{Sees, marked_false, unmarked, unmarked_false, here, next_false, next_open, two_open, seen_all, neither_true, sees_all, sees_none, not_zero}
use Rattle.log_check.proofs.scan.scan_clause.Goals as goal

pub loop-lit-preserved-then-is_false : goal.loop-lit-preserved-then-is_false
loop-lit-preserved-then-is_false c =
    let x : ℤ = get_or c.args.clause.now c.loop-lit.lit-index (pos 0) in
    let f : SFits w32 x = search rules in
    let e : c.is_false.result ≡ mark_at c.args.marks.now (neg_ℤ x) = simp to_z-of_z at c.is_false.ensures in
    next_false c.args.assumed.now c.args.clause.now _ c.loop-lit.lit-index (omega arith) c.loop-lit.invariant (marked_false c.args.marks.now _ _ _ _ c.requires.marks refl e c.if-is_false.true)

pub returns-then-is_marked : goal.returns-then-is_marked
returns-then-is_marked c =
    let x : ℤ = get_or c.args.clause.now c.loop-lit.lit-index (pos 0) in
    let f : SFits w32 x = search rules in
    let e : c.is_false.result ≡ mark_at c.args.marks.now (neg_ℤ x) = simp to_z-of_z at c.is_false.ensures in
    let g : c.is_marked.result ≡ mark_at c.args.marks.now x = simp to_z-of_z at c.is_marked.ensures in
    neither_true c.args.assumed.now c.args.clause.now _ (here c.args.clause.now c.loop-lit.lit-index (omega arith)) (unmarked_false c.args.marks.now _ _ _ _ c.requires.marks refl e c.if-is_false.false)
    (c.requires.marks.held _ (sym g ∙ c.if-is_marked.true))

pub returns-then-is_other : goal.returns-then-is_other
returns-then-is_other c =
    let x : ℤ = get_or c.args.clause.now c.loop-lit.lit-index (pos 0) in
    let f : SFits w32 x = search rules in
    let e : c.is_false.result ≡ mark_at c.args.marks.now (neg_ℤ x) = simp to_z-of_z at c.is_false.ensures in
    let o = simp to_z-of_z at c.if-is_other.ensures in
    two_open c.args.assumed.now c.args.clause.now _ c.loop-lit.lit-index (omega arith) c.loop-lit.invariant (unmarked_false c.args.marks.now _ _ _ _ c.requires.marks refl e c.if-is_false.false) o

pub loop-lit-preserved : goal.loop-lit-preserved
loop-lit-preserved c =
    let x : ℤ = get_or c.args.clause.now c.loop-lit.lit-index (pos 0) in
    let f : SFits w32 x = search rules in
    let e : c.is_false.result ≡ mark_at c.args.marks.now (neg_ℤ x) = simp to_z-of_z at c.is_false.ensures in
    let g : c.is_marked.result ≡ mark_at c.args.marks.now x = simp to_z-of_z at c.is_marked.ensures in
    let o = simp to_z-of_z at c.if-is_other.ensures in
    subst (λ (u : ℤ). Sees c.args.assumed.now (take (c.loop-lit.lit-index + 1) c.args.clause.now) u) (sym (to_z-of_z w32 x f))
    (next_open c.args.assumed.now c.args.clause.now _ c.loop-lit.lit-index (omega arith) c.loop-lit.invariant (unmarked_false c.args.marks.now _ _ _ _ c.requires.marks refl e c.if-is_false.false)
    (unmarked c.args.marks.now _ _ _ c.requires.marks g c.if-is_marked.false) o (not_zero _ c.args.clause.now c.requires.within))

pub returns-then-unit-eq0 : goal.returns-then-unit-eq0
returns-then-unit-eq0 c = sees_none c.args.assumed.now c.args.clause.now _ (seen_all _ c.args.clause.now _ c.loop-lit.lit-index (omega arith) c.loop-lit.invariant) (ap (to_z w32) c.if-unit-eq0.true) (not_zero _ c.args.clause.now c.requires.within)

pub returns-else-unit-eq0 : goal.returns-else-unit-eq0
returns-else-unit-eq0 c = sees_all c.args.assumed.now c.args.clause.now _ (seen_all _ c.args.clause.now _ c.loop-lit.lit-index (omega arith) c.loop-lit.invariant) (λ e. c.if-unit-eq0.false (grind (arith, ints)))
