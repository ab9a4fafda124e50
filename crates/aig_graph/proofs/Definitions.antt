-- What a builder keeps, in the words of netlists: which variables are defined, once each and within range.
use Rattle.std.proofs.Common.{◌≡◌, ◌≢◌, ◌∙◌, ◌<◌, ◌≤◌, ◌+◌, ◌⊎◌, inl, inr, ℕ, zero, suc, Bool, true, false, ◌||◌, cond, eqb, List, [], ◌∷◌, ◌++◌, map, length, get_or, refl, ap, ap₂, sym, arith}
use Rattle.std.specs.List.{All, AllPairs, Contains, list_any, sum_by}
use Rattle.std.proofs.lemmas.Bool.{cases_eq, cases_lt, eqb-true, eq-eqb, ne_eqb}
use Rattle.std.proofs.lemmas.List.{get_or_default, get_or_past}
use Rattle.std.proofs.lemmas.List.Folds.{Any-from_list_any, list_any_at, list_any-append}
use Rattle.std.proofs.lemmas.List.Sums.{sum_by-cons, sum_by-append, get_or-le-sum_by}
use Rattle.circ_model.specs.declared.netlist.Latch.{Latch}
use Rattle.circ_model.specs.declared.netlist.Gate.{Gate}
use Rattle.circ_model.specs.Netlist.{Netlist, variables, leaf_variables, gate_variables}
use Rattle.aig_graph.specs.Given.{is_leaf, is_defined}
use Rattle.aig_graph.specs.Kept.{is_set, times_defined, IsKept}
use Rattle.aig_graph.proofs.Keeping.{none_defined}

any_map : {X Y : Type 0} (p : Y → Bool) (f : X → Y) (xs : List X) → list_any p (map f xs) ≡ list_any (λ x. p (f x)) xs
any_map p f [] = refl
any_map p f (x ∷ xs) = ap (λ (b : Bool). p (f x) || b) (any_map p f xs)

listed : (xs : List ℕ) (v : ℕ) → list_any (λ w. eqb w v) xs ≡ true → Contains xs v
listed xs v e = let a = Any-from_list_any (λ w. eqb w v) xs e in (a.0, a.2, get_or_default xs a.0 v a.1 a.2 ∙ a.3 ∙ eqb-true _ _ a.4)

or_or : (a b c : Bool) → ((a || b) || c) ≡ (a || (b || c))
or_or true b c = refl
or_or false b c = refl

or_right : (a b : Bool) → b ≡ true → (a || b) ≡ true
or_right true b e = refl
or_right false b e = e

or_cases : (a b : Bool) → (a || b) ≡ true → (a ≡ true) ⊎ (b ≡ true)
or_cases true b e = inl refl
or_cases false b e = inr e

-- the variables are the constant and those that have a definition
among : (g : Netlist) (v : ℕ) → list_any (λ w. eqb w v) (variables g) ≡ (eqb 0 v || is_defined g v)
among g v =
    let ls : List ℕ = map (λ (l : Latch). l.var) g.latches in
    list_any-append (λ w. eqb w v) (leaf_variables g) (gate_variables g)
    ∙ ap₂ (λ (a b : Bool). (eqb 0 v || a) || b)
    (list_any-append (λ w. eqb w v) g.inputs ls ∙ ap (λ (b : Bool). list_any (λ w. eqb w v) g.inputs || b) (any_map (λ w. eqb w v) (λ (l : Latch). l.var) g.latches))
    (any_map (λ w. eqb w v) (λ (q : Gate). q.var) g.gates)
    ∙ or_or (eqb 0 v) (is_leaf g v) (list_any (λ (q : Gate). eqb q.var v) g.gates)

pub defined_here : (g : Netlist) (v : ℕ) → is_defined g v ≡ true → Contains (variables g) v
defined_here g v e = listed (variables g) v (among g v ∙ or_right (eqb 0 v) (is_defined g v) e)

pub defined_or : (g : Netlist) (v : ℕ) → Contains (variables g) v → (v ≡ 0) ⊎ (is_defined g v ≡ true)
defined_or g v c =
    let e : list_any (λ w. eqb w v) (variables g) ≡ true = list_any_at (λ w. eqb w v) (variables g) c.0 v c.1 (eq-eqb _ _ c.2) in
    elim (or_cases (eqb 0 v) (is_defined g v) (sym (among g v) ∙ e)) [ inl z ↦ inl (sym (eqb-true 0 v z)) | inr d ↦ inr d ]

-- ---- by the cell of a variable

set_true : (n : ℕ) → n ≢ 0 → is_set n ≡ true
set_true n ne = let h = ne_eqb n 0 ne in rw h refl

set_some : (n : ℕ) → is_set n ≡ true → n ≢ 0
set_some n e = λ z. let h : is_set n ≡ false = ap is_set z in absurd cc

pub marked : (defs : List ℕ) (g : Netlist) (v : ℕ) → IsKept defs g → get_or defs v 0 ≢ 0 → Contains (variables g) v
marked defs g v kept ne = defined_here g v (kept.mark v ∙ set_true (get_or defs v 0) ne)

pub mark_of : (defs : List ℕ) (g : Netlist) (v : ℕ) → IsKept defs g → Contains (variables g) v → (v ≡ 0) ⊎ (get_or defs v 0 ≢ 0)
mark_of defs g v kept c = elim (defined_or g v c) [ inl z ↦ inl z | inr d ↦ inr (set_some (get_or defs v 0) (sym (kept.mark v) ∙ d)) ]

pub within : (defs : List ℕ) (g : Netlist) (v : ℕ) → IsKept defs g → Contains (variables g) v → v ≤ g.max_var
within defs g v kept c =
    elim (mark_of defs g v kept c) [
      | inl z ↦ omega arith
      | inr ne ↦ elim (cases_lt v (length defs)) [ inl lt ↦ omega (arith, kept.len) | inr ge ↦ absurd (ne (get_or_past defs v 0 ge)) ]
    ]

leaf_cell : (defs : List ℕ) (g : Netlist) (v : ℕ) → IsKept defs g → Contains (leaf_variables g) v → get_or defs v 0 < 2
leaf_cell defs g v kept c =
    let e : list_any (λ w. eqb w v) (leaf_variables g) ≡ true = list_any_at (λ w. eqb w v) (leaf_variables g) c.0 v c.1 (eq-eqb _ _ c.2) in
    let ls : List ℕ = map (λ (l : Latch). l.var) g.latches in
    let f : (eqb 0 v || list_any (λ w. eqb w v) (g.inputs ++ ls)) ≡ (eqb 0 v || is_leaf g v) =
    ap (λ (b : Bool). eqb 0 v || b) (list_any-append (λ w. eqb w v) g.inputs ls ∙ ap (λ (b : Bool). list_any (λ w. eqb w v) g.inputs || b) (any_map (λ w. eqb w v) (λ (l : Latch). l.var) g.latches)) in
    elim (or_cases (eqb 0 v) (is_leaf g v) (sym f ∙ e)) [
      | inl z ↦ let h : get_or defs 0 0 ≡ get_or defs v 0 = ap (λ (x : ℕ). get_or defs x 0) (eqb-true 0 v z) in omega (arith, kept.zero)
      | inr d ↦ omega (arith, kept.leaf v d)
    ]

pub leaf_cells : (defs : List ℕ) (g : Netlist) → IsKept defs g → All (λ v. get_or defs v 0 < 2) (leaf_variables g)
leaf_cells defs g kept k d lt = leaf_cell defs g (get_or (leaf_variables g) k d) kept (k, lt, get_or_default (leaf_variables g) k (get_or (leaf_variables g) k d) d lt)

-- ---- once each

abbrev pub hit : ℕ → ℕ → ℕ
hit v w = cond (eqb w v) 1 0

hit_same : (v w : ℕ) → w ≡ v → hit v w ≡ 1
hit_same v w e = let h = eq-eqb w v e in rw h refl

hit_other : (v w : ℕ) → w ≢ v → hit v w ≡ 0
hit_other v w ne = let h = ne_eqb w v ne in rw h refl

abbrev pub times : ℕ → List ℕ → ℕ
times v vs = sum_by (hit v) vs

times_map : {X : Type 0} (v : ℕ) (f : X → ℕ) (xs : List X) → times v (map f xs) ≡ sum_by (λ x. cond (eqb (f x) v) 1 0) xs
times_map v f [] = refl
times_map v f (x ∷ xs) = let a = sum_by-cons (hit v) (f x) (map f xs) in let b = sum_by-cons (λ y. cond (eqb (f y) v) 1 0) x xs in let r = times_map v f xs in omega arith

pub variable_once : (defs : List ℕ) (g : Netlist) (v : ℕ) → IsKept defs g → times v (variables g) ≤ 1
variable_once defs g v kept =
    let ls : List ℕ = map (λ (l : Latch). l.var) g.latches in
    let a = sum_by-append (hit v) (leaf_variables g) (gate_variables g) in
    let b = sum_by-cons (hit v) 0 (g.inputs ++ ls) in
    let c = sum_by-append (hit v) g.inputs ls in
    let d = times_map v (λ (l : Latch). l.var) g.latches in
    let e = times_map v (λ (q : Gate). q.var) g.gates in
    let all : times v (variables g) ≡ hit v 0 + times_defined g v = omega arith in
    elim (cases_eq 0 v) [
      | inl z ↦
          let none = none_defined g 0 (kept.mark 0 ∙ ap is_set kept.zero) in
          let same : times_defined g v ≡ times_defined g 0 = ap (times_defined g) (sym z) in
          let u = hit_same v 0 z in
          omega arith
      | inr ne ↦
          let u = hit_other v 0 ne in
          omega (arith, kept.once v)
    ]

pub distinct : (vs : List ℕ) → ((v : ℕ) → times v vs ≤ 1) → AllPairs (λ v w. v ≢ w) vs
distinct [] one i j d less lt = absurd (omega arith)
distinct (x ∷ vs) one i zero d less lt = absurd (omega arith)
distinct (x ∷ vs) one zero (suc j) d less lt = λ e.
    let c = sum_by-cons (hit x) x vs in
    let m = get_or-le-sum_by (hit x) vs j d (omega arith) in
    let p = hit_same x x refl in
    let q = hit_same x (get_or vs j d) (sym e) in
    let o = one x in
    omega arith
distinct (x ∷ vs) one (suc i) (suc j) d less lt =
    distinct vs (λ v. let c = sum_by-cons (hit v) x vs in let o = one v in omega arith) i j d (omega arith) (omega arith)
