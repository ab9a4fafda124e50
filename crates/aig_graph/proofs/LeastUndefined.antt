-- The least used variable that has no definition.
use Rattle.std.proofs.Common.{◌≡◌, ◌∙◌, ℕ, zero, suc, ◌/◌, ◌<◌, ◌≤◌, ◌⊎◌, inl, inr, Bool, true, false, cond, ◌&&◌, eqb, ltb, List, [], ◌∷◌, ◌++◌, map, length, get_or, refl, sym, ap, subst, arith}
use Rattle.std.specs.List.{All, Contains}
use Rattle.std.proofs.lemmas.Bool.{cases_eq, eqb-true, ltb-true}
use Rattle.std.proofs.lemmas.Bool.Decides.{nat_tests}
use Rattle.std.proofs.lemmas.List.{get_or_default, get_or-map, length-map}
use Rattle.std.proofs.lemmas.List.Elements.{All-contains_itself, Contains-append_cases, Contains-append_left, Contains-append_right}
use Rattle.circ_model.specs.declared.netlist.Latch.{Latch}
use Rattle.circ_model.specs.declared.netlist.Gate.{Gate}
use Rattle.circ_model.specs.Netlist.{Netlist, AllDefined, IsDefined, no_gate, variables}
use Rattle.aig_graph.specs.Kept.{IsKept}
use Rattle.aig_graph.specs.Walk.{gate_in}
use Rattle.aig_graph.specs.Finish.{right_literals, used, IsLeastUndefined, lower, lowest}
use Rattle.aig_graph.proofs.Definitions.{marked, mark_of}

-- what the lowest is
pub record Lowest (defs : List ℕ) (start : ℕ) (lits : List ℕ) (r : ℕ) : Type 0 where
  pub le : r ≤ start
  pub is : (r ≡ start) ⊎ ((lit : ℕ) × Contains lits lit × (0 < lit / 2) × (get_or defs (lit / 2) 0 ≡ 0) × (lit / 2 ≡ r))
  pub least : (lit : ℕ) → Contains lits lit → 0 < lit / 2 → get_or defs (lit / 2) 0 ≡ 0 → r ≤ lit / 2

lower_le : (defs : List ℕ) (n lit : ℕ) → lower defs n lit ≤ n
lower_le defs n lit = grind (arith, nat_tests)

lower_is : (defs : List ℕ) (n lit : ℕ) → (lower defs n lit ≡ n) ⊎ ((0 < lit / 2) × (get_or defs (lit / 2) 0 ≡ 0) × (lit / 2 ≡ lower defs n lit))
lower_is defs n lit = by_test (ltb 0 (lit / 2)) (eqb (get_or defs (lit / 2) 0) 0) (ltb (lit / 2) n) refl refl
  where
    by_test : (a b c : Bool) → ltb 0 (lit / 2) ≡ a → eqb (get_or defs (lit / 2) 0) 0 ≡ b → (cond ((a && b) && c) (lit / 2) n ≡ n) ⊎ ((0 < lit / 2) × (get_or defs (lit / 2) 0 ≡ 0) × (lit / 2 ≡ cond ((a && b) && c) (lit / 2) n))
    by_test true true true x y = inr (ltb-true 0 (lit / 2) x, eqb-true _ _ y, refl)
    by_test true true false x y = inl refl
    by_test true false c x y = inl refl
    by_test false b c x y = inl refl

lower_low : (defs : List ℕ) (n lit : ℕ) → 0 < lit / 2 → get_or defs (lit / 2) 0 ≡ 0 → lower defs n lit ≤ lit / 2
lower_low defs n lit pos free = grind (arith, nat_tests)

contains_rest : (x : ℕ) (xs : List ℕ) (y : ℕ) → Contains xs y → Contains (x ∷ xs) y
contains_rest x xs y c = (suc c.0, omega (arith, c.1), c.2)

contains_first : (x : ℕ) (xs : List ℕ) → Contains (x ∷ xs) x
contains_first x xs = (0, omega arith, refl)

contains_cases : (x : ℕ) (xs : List ℕ) (y : ℕ) → Contains (x ∷ xs) y → (x ≡ y) ⊎ Contains xs y
contains_cases x xs y (zero, lt, e) = inl e
contains_cases x xs y (suc k, lt, e) = inr (k, omega arith, e)

pub lowest_is : (defs : List ℕ) (start : ℕ) (lits : List ℕ) → Lowest defs start lits (lowest defs start lits)
lowest_is defs start [] = record { le = omega arith; is = inl refl; least = λ lit c. absurd (omega (arith, c.1)) }
lowest_is defs start (x ∷ xs) =
    let h = lowest_is defs (lower defs start x) xs in
    let low = lower_le defs start x in
    record {
      le = omega (arith, h.le);
      is = elim h.is [
        | inl e ↦ elim (lower_is defs start x) [ inl same ↦ inl (e ∙ same) | inr p ↦ inr (x, contains_first x xs, p.0, p.1, p.2 ∙ sym e) ]
        | inr p ↦ inr (p.0, contains_rest x xs p.0 p.1, p.2, p.3, p.4)
      ];
      least = λ lit c pos free. elim (contains_cases x xs lit c) [
        | inl e ↦
            let at : lower defs start lit ≤ lit / 2 = lower_low defs start lit pos free in
            let same : lower defs start x ≡ lower defs start lit = ap (λ (k : ℕ). lower defs start k) e in
            omega (arith, h.le)
        | inr rest ↦ h.least lit rest pos free
      ];
    }

pub lowest_append : (defs : List ℕ) (n : ℕ) (xs ys : List ℕ) → lowest defs n (xs ++ ys) ≡ lowest defs (lowest defs n xs) ys
lowest_append defs n [] ys = refl
lowest_append defs n (x ∷ xs) ys = lowest_append defs (lower defs n x) xs ys

-- ---- each used literal is within what the builder keeps

pub latches_within : (defs : List ℕ) (g : Netlist) → IsKept defs g → All (λ (l : Latch). l.next / 2 < length defs) g.latches
latches_within defs g kept = λ k d lt. let h = kept.nexts k d lt in omega (arith, kept.len)

pub outputs_within : (defs : List ℕ) (g : Netlist) → IsKept defs g → All (λ lit. lit / 2 < length defs) g.outputs
outputs_within defs g kept = λ k d lt. let h = kept.outs k d lt in omega (arith, kept.len)

pub gates_within : (defs : List ℕ) (g : Netlist) → IsKept defs g → All (λ (q : Gate). (q.left / 2 < length defs) × (q.right / 2 < length defs)) g.gates
gates_within defs g kept = λ k d lt.
    let e = get_or_default g.gates k no_gate d lt in let w = kept.within k lt in
    subst (λ (q : Gate). (q.left / 2 < length defs) × (q.right / 2 < length defs)) e (omega (arith, w.1, kept.len), omega (arith, w.2, kept.len))

-- a fact of each next literal, output and right literal
right_each : (n : ℕ) (gs : List Gate) → All (λ (q : Gate). (q.left / 2 < n) × (q.right / 2 < n)) gs → (lit : ℕ) → Contains (right_literals gs) lit → lit / 2 < n
right_each n [] all lit c = absurd (omega (arith, c.1))
right_each n (q ∷ gs) all lit c =
    let first = all 0 q (omega arith) in
    elim (contains_cases q.left (q.right ∷ right_literals gs) lit c) [
      | inl e ↦ let h : q.left / 2 ≡ lit / 2 = ap (λ x. x / 2) e in omega (arith, first.0)
      | inr rest ↦ elim (contains_cases q.right (right_literals gs) lit rest) [
        | inl e ↦ let h : q.right / 2 ≡ lit / 2 = ap (λ x. x / 2) e in omega (arith, first.1)
        | inr more ↦ right_each n gs (λ k d lt. all (suc k) d (omega arith)) lit more
      ]
    ]

next_each : (n : ℕ) (ls : List Latch) → All (λ (l : Latch). l.next / 2 < n) ls → (lit : ℕ) → Contains (map (λ (l : Latch). l.next) ls) lit → lit / 2 < n
next_each n [] all lit c = absurd (omega (arith, c.1))
next_each n (l ∷ ls) all lit c =
    elim (contains_cases l.next (map (λ (x : Latch). x.next) ls) lit c) [
      | inl e ↦ let h : l.next / 2 ≡ lit / 2 = ap (λ x. x / 2) e in omega (arith, all 0 l (omega arith))
      | inr rest ↦ next_each n ls (λ k d lt. all (suc k) d (omega arith)) lit rest
    ]

pub used_within : (defs : List ℕ) (g : Netlist) → IsKept defs g → (lit : ℕ) → Contains (used g) lit → lit / 2 < length defs
used_within defs g kept lit c =
    elim (Contains-append_cases (map (λ (l : Latch). l.next) g.latches ++ g.outputs) (right_literals g.gates) lit c) [
      | inl front ↦ elim (Contains-append_cases (map (λ (l : Latch). l.next) g.latches) g.outputs lit front) [
        | inl n ↦ next_each (length defs) g.latches (latches_within defs g kept) lit n
        | inr o ↦ let h = outputs_within defs g kept o.0 lit o.1 in subst (λ x. x / 2 < length defs) o.2 h
      ]
      | inr r ↦ right_each (length defs) g.gates (gates_within defs g kept) lit r
    ]

-- ---- what is due

constant_defined : (g : Netlist) (lit : ℕ) → lit / 2 ≡ 0 → IsDefined g lit
constant_defined g lit e = subst (λ (v : ℕ). Contains (variables g) v) (sym e) (0, omega arith, refl)

undefined : (defs : List ℕ) (g : Netlist) (lit : ℕ) → IsKept defs g → 0 < lit / 2 → get_or defs (lit / 2) 0 ≡ 0 → IsDefined g lit → ⊥
undefined defs g lit kept pos free c = elim (mark_of defs g (lit / 2) kept c) [ inl z ↦ omega arith | inr ne ↦ ne free ]

pub undefined_due : (defs : List ℕ) (g s : Netlist) (start r : ℕ) → g ≡ s → IsKept defs g → r ≡ lowest defs start (used g) → r < start → IsLeastUndefined s r
undefined_due defs g s start r e kept is lt =
    let low : Lowest defs start (used g) r = subst (Lowest defs start (used g)) (sym is) (lowest_is defs start (used g)) in
    subst (λ (x : Netlist). IsLeastUndefined x r) e (record {
      is = elim low.is [
        | inl same ↦ absurd (omega arith)
        | inr p ↦ (p.0, p.1, undefined defs g p.0 kept p.2 p.3, p.4)
      ];
      least = λ lit c none. elim (cases_eq (lit / 2) 0) [
        | inl z ↦ absurd (none (constant_defined g lit z))
        | inr ne ↦ elim (cases_eq (get_or defs (lit / 2) 0) 0) [ inl free ↦ low.least lit c (omega arith) free | inr set ↦ absurd (none (marked defs g (lit / 2) kept set)) ]
      ];
    })

each_defined : (defs : List ℕ) (g : Netlist) (start r : ℕ) → IsKept defs g → r ≡ lowest defs start (used g) → start ≤ r → start ≡ length defs → (lit : ℕ) → Contains (used g) lit → IsDefined g lit
each_defined defs g start r kept is le len lit c =
    let low : Lowest defs start (used g) r = subst (Lowest defs start (used g)) (sym is) (lowest_is defs start (used g)) in
    elim (cases_eq (lit / 2) 0) [
      | inl z ↦ constant_defined g lit z
      | inr ne ↦ elim (cases_eq (get_or defs (lit / 2) 0) 0) [
        | inl free ↦ let l = low.least lit c (omega arith) free in let b = used_within defs g kept lit c in absurd (omega (arith, low.le))
        | inr set ↦ marked defs g (lit / 2) kept set
      ]
    ]

-- a right literal of a gate is used
right_of : (gs : List Gate) (k : ℕ) → k < length gs → Contains (right_literals gs) ((gate_in gs k).left) × Contains (right_literals gs) ((gate_in gs k).right)
right_of [] k lt = absurd (omega arith)
right_of (q ∷ gs) zero lt = ((0, omega arith, refl), (1, omega arith, refl))
right_of (q ∷ gs) (suc k) lt =
    let h = right_of gs k (omega arith) in
    ((suc (suc h.0.0), omega (arith, h.0.1), h.0.2), (suc (suc h.1.0), omega (arith, h.1.1), h.1.2))

next_of : (ls : List Latch) (k : ℕ) (d : Latch) → k < length ls → Contains (map (λ (l : Latch). l.next) ls) (get_or ls k d).next
next_of ls k d lt = (k, (let h = length-map ls (λ (l : Latch). l.next) in omega arith), get_or-map (λ (l : Latch). l.next) ls k d _ lt)

all_defined : (g : Netlist) → ((lit : ℕ) → Contains (used g) lit → IsDefined g lit) → AllDefined g
all_defined g each =
    let ns : List ℕ = map (λ (l : Latch). l.next) g.latches in
    record {
      latches = λ k d lt. each _ (Contains-append_left (ns ++ g.outputs) (right_literals g.gates) _ (Contains-append_left ns g.outputs _ (next_of g.latches k d lt)));
      outputs = λ k d lt. each _ (Contains-append_left (ns ++ g.outputs) (right_literals g.gates) _ (Contains-append_right ns g.outputs _ (All-contains_itself g.outputs k d lt)));
      gates = λ k d lt.
          let r = right_of g.gates k lt in
          subst (λ (q : Gate). IsDefined g q.left × IsDefined g q.right) (get_or_default g.gates k no_gate d lt)
          (each _ (Contains-append_right (ns ++ g.outputs) (right_literals g.gates) _ r.0), each _ (Contains-append_right (ns ++ g.outputs) (right_literals g.gates) _ r.1));
    }

pub defined_due : (defs : List ℕ) (g : Netlist) (start r : ℕ) → IsKept defs g → r ≡ lowest defs start (used g) → start ≤ r → start ≡ length defs → AllDefined g
defined_due defs g start r kept is le len = all_defined g (each_defined defs g start r kept is le len)
