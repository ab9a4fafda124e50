use Rattle.std.proofs.Common.{◌≡◌, ◌∙◌, ◌<◌, ◌+◌, ◌*◌, ℕ, zero, suc, ℤ, pos, negsuc, neg_ℤ, ◌-ℤ◌, List, [], ◌∷◌, ◌++◌, length, take, map, get_or, ap, sym, subst, append_assoc, arith, rules, w32}
use mir.Val.{SFits}
use Rattle.std.proofs.lemmas.Int.{ints, to_z-of_z}
use Rattle.std.proofs.lemmas.List.{take_more, map-append}
use Rattle.cnf_store.specs.Clauses.{IsLiteral}
use Rattle.log_check.specs.Marks.{code}
use Rattle.log_check.proofs.line.deny.Goals as goal

minus : (x : ℤ) → pos 0 -ℤ x ≡ neg_ℤ x
minus x = grind (arith, ints)

-- the complement of a literal has a mark
complement_marked : (vars : ℕ) (x : ℤ) → IsLiteral vars x → code (neg_ℤ x) < 2 * vars + 2
complement_marked vars (pos zero) is = omega (arith, is.0)
complement_marked vars (pos (suc n)) is = omega (arith, is.1)
complement_marked vars (negsuc n) is = omega (arith, is.1)

-- one more complement
denied_more : (literals before old now : List ℤ) (i : ℕ) → i < length literals → old ≡ before ++ map neg_ℤ (take i literals)
    → now ≡ old ++ (pos 0 -ℤ get_or literals i (pos 0)) ∷ [] → now ≡ before ++ map neg_ℤ (take (i + 1) literals)
denied_more literals before old now i lt e f =
    let x : ℤ = get_or literals i (pos 0) in
    f ∙ ap (λ (xs : List ℤ). xs ++ (pos 0 -ℤ x) ∷ []) e ∙ append_assoc before (map neg_ℤ (take i literals)) ((pos 0 -ℤ x) ∷ [])
    ∙ ap (λ (xs : List ℤ). before ++ xs) (ap (λ (y : ℤ). map neg_ℤ (take i literals) ++ y ∷ []) (minus x) ∙ sym (map-append neg_ℤ (take i literals) (x ∷ [])) ∙ ap (map neg_ℤ) (sym (take_more literals i (pos 0) lt)))

pub assume-requires-clause-within : goal.assume-requires-clause-within
assume-requires-clause-within c =
    let x : ℤ = get_or c.args.literals.now c.loop-i.i (pos 0) in
    let f : SFits w32 x = search rules in
    let is : IsLiteral c.args.vars x = c.requires.within _ _ c.loop-i-test.true in
    let g : SFits w32 (pos 0 -ℤ x) = search rules in
    let lt : code (neg_ℤ x) < length c.loop-i.marks = omega (arith, complement_marked c.args.vars x is, c.loop-i.invariant.size, c.requires.size) in
    simp to_z-of_z (subst (λ (y : ℤ). code y < length c.loop-i.marks) (sym (minus x)) lt)

pub loop-i-preserved : goal.loop-i-preserved
loop-i-preserved c =
    let x : ℤ = get_or c.args.literals.now c.loop-i.i (pos 0) in
    let f : SFits w32 x = search rules in
    let is : IsLiteral c.args.vars x = c.requires.within _ _ c.loop-i-test.true in
    let g : SFits w32 (pos 0 -ℤ x) = search rules in
    let pushed = simp to_z-of_z at c.in_ok-assume.ensures.ok.0 in
    record {
      items = denied_more c.args.literals.now c.args.assumed.now.items c.loop-i.assumed.items c.assume.new.assumed.items c.loop-i.i c.loop-i-test.true c.loop-i.invariant.items pushed;
      marks = c.in_ok-assume.ensures.ok.1;
      size = c.assume.ensures.size ∙ c.loop-i.invariant.size;
    }
