-- The order of (level, variable).
use Rattle.std.proofs.Common.{◌≡◌, ◌≢◌, ◌∙◌, ℕ, zero, suc, ◌+◌, ◌<◌, ◌≤◌, inl, inr, cond, eqb, List, [], ◌∷◌, length, get_or, refl, sym, ap, subst, arith, zero-add}
use Rattle.std.specs.List.{All, AllPairs, sum_by}
use Rattle.std.specs.List.Sorted.{IsPermutation, IsNonDecreasingBy}
use Rattle.std.proofs.lemmas.Bool.{cases_eq, cases_lt, eq-eqb, ne_eqb}
use Rattle.std.proofs.lemmas.List.{get_or_default}
use Rattle.std.proofs.lemmas.List.Sums.{sum_by-cons, get_or-le-sum_by}
use Rattle.std.proofs.lemmas.List.Sorted.{All-permutation, sum_by-IsPermutation}
use Rattle.circ_model.specs.declared.netlist.Gate.{Gate}
use Rattle.circ_model.specs.Netlist.{Netlist, StandsBefore, no_gate}
use Rattle.aig_graph.specs.Kept.{IsKept}
use Rattle.aig_graph.specs.Walk.{var_in, key_of}

abbrev pub is_of : ℕ → Gate → ℕ
is_of v q = cond (eqb q.var v) 1 0

-- each variable is defined at most once
abbrev pub AtMostOnce : List Gate → Type 0
AtMostOnce gs = (v : ℕ) → sum_by (is_of v) gs ≤ 1

of_other : (v : ℕ) (q : Gate) → q.var ≢ v → is_of v q ≡ 0
of_other v q ne = let h = ne_eqb q.var v ne in rw h refl

pub of_same : (v : ℕ) (q : Gate) → q.var ≡ v → is_of v q ≡ 1
of_same v q e = let h = eq-eqb q.var v e in rw h refl

of_most : (v : ℕ) (q : Gate) → is_of v q ≤ 1
of_most v q = elim (cases_eq q.var v) [ inl e ↦ let h = of_same v q e in omega arith | inr ne ↦ let h = of_other v q ne in omega arith ]

none_of : (v : ℕ) (gs : List Gate) → ((k : ℕ) → k < length gs → var_in gs k ≢ v) → sum_by (is_of v) gs ≡ 0
none_of v [] h = refl
none_of v (g ∷ gs) h =
    let c = sum_by-cons (is_of v) g gs in
    let a = of_other v g (h 0 (omega arith)) in
    let b = none_of v gs (λ k lt. h (suc k) (omega arith)) in
    omega arith

pub once : (defs : List ℕ) (gs : List Gate) (base : ℕ) → ((k : ℕ) → k < length gs → get_or defs (var_in gs k) 0 ≡ k + base) → AtMostOnce gs
once defs [] base own v = omega arith
once defs (g ∷ gs) base own v =
    let c = sum_by-cons (is_of v) g gs in
    elim (cases_eq g.var v) [
      | inl e ↦
          let first : get_or defs v 0 ≡ base = ap (λ (x : ℕ). get_or defs x 0) (sym e) ∙ own 0 (omega arith) ∙ zero-add base in
          let rest = none_of v gs (λ k lt is. let later : get_or defs v 0 ≡ suc k + base = ap (λ (x : ℕ). get_or defs x 0) (sym is) ∙ own (suc k) (omega arith) in absurd (omega arith)) in
          let m = of_most v g in
          omega arith
      | inr ne ↦
          let a = of_other v g ne in
          let rest = once defs gs (suc base) (λ k lt. let o = own (suc k) (omega arith) in omega arith) v in
          omega arith
    ]

pub before : (level : List ℕ) (g h : Gate) → key_of level g ≤ key_of level h → g.var < 4294967296 → h.var < 4294967296 → g.var ≢ h.var → StandsBefore (λ v. get_or level v 0) g h
before level g h le a b ne =
    elim (cases_lt (get_or level g.var 0) (get_or level h.var 0)) [
      | inl lt ↦ inl lt
      | inr ge ↦ inr (omega arith, omega arith)
    ]

pub in_order : (level : List ℕ) (gs : List Gate) → IsNonDecreasingBy (key_of level) gs → All (λ (q : Gate). q.var < 4294967296) gs → AtMostOnce gs → AllPairs (StandsBefore (λ v. get_or level v 0)) gs
in_order level gs sorted small one i j d less lt = before level (get_or gs i d) (get_or gs j d) (sorted i j d (omega arith) lt) (small i d (omega arith)) (small j d lt) (apart gs one i j d less lt)
  where
    apart : (gs : List Gate) → AtMostOnce gs → (i j : ℕ) (d : Gate) → i < j → j < length gs → (get_or gs i d).var ≢ (get_or gs j d).var
    apart [] one i j d less lt = absurd (omega arith)
    apart (g ∷ gs) one i zero d less lt = absurd (omega arith)
    apart (g ∷ gs) one zero (suc j) d less lt = λ e.
        let c = sum_by-cons (is_of g.var) g gs in
        let a = of_same g.var g refl in
        let b = of_same g.var (get_or gs j d) (sym e) in
        let m = get_or-le-sum_by (is_of g.var) gs j d (omega arith) in
        let o = one g.var in
        omega arith
    apart (g ∷ gs) one (suc i) (suc j) d less lt = apart gs (λ v. let c = sum_by-cons (is_of v) g gs in let o = one v in omega arith) i j d (omega arith) (omega arith)

pub sorted_gates : (defs : List ℕ) (g : Netlist) (level : List ℕ) (gs : List Gate) → IsKept defs g → IsPermutation g.gates gs → IsNonDecreasingBy (key_of level) gs → AllPairs (StandsBefore (λ v. get_or level v 0)) gs
sorted_gates defs g level gs kept same sorted =
    in_order level gs sorted
    (All-permutation (λ (q : Gate). q.var < 4294967296) g.gates gs same (λ k d lt.
    let e = get_or_default g.gates k no_gate d lt in let w = kept.within k lt in
    subst (λ (q : Gate). q.var < 4294967296) e (omega (arith, w.0, kept.size))))
    (λ v. let p = sum_by-IsPermutation (is_of v) g.gates gs same in let o = once defs g.gates 2 kept.own v in omega arith)
