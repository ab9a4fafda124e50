-- Each literal of a trail is true where the clauses and the decisions are.
use Rattle.std.proofs.Common.{◌≡◌, ◌≢◌, ◌<◌, ◌-◌, ◌%◌, ◌==◌, ℕ, zero, suc, List, [], length, get_or, arith, sym, ◌∙◌, ap, subst, ◌⊎◌, ⊎_elim, Bool, false}
use Rattle.std.specs.List.{Any}
use Rattle.std.proofs.lemmas.Bool.{false≢true, cases_eq, eq-eqb, ne_eqb}
use Rattle.cnf_store.specs.Codes.{neg, clause_at, MakesTrue, Satisfies}
use Rattle.cnf_store.proofs.Lits.{neg_var}
use Rattle.sat_trail.specs.Trail.{StandsBelow, Reasoned, AreReasoned}

-- no assignment makes a literal and its complement true
not_both : (row : List Bool) (l : ℕ) → MakesTrue row l → MakesTrue row (neg l) → ⊥
not_both row l a b =
    let c : (neg l % 2 == 0) ≡ (l % 2 == 0) = sym b ∙ ap (λ (v : ℕ). get_or row v false) (neg_var l) ∙ a in
    ⊎_elim
    (λ (even : l % 2 ≡ 0). false≢true (sym (ne_eqb (neg l % 2) 0 (λ z. omega arith)) ∙ c ∙ eq-eqb (l % 2) 0 even))
    (λ (odd : l % 2 ≢ 0). false≢true (sym (ne_eqb (l % 2) 0 odd) ∙ sym c ∙ eq-eqb (neg l % 2) 0 (omega arith)))
    (cases_eq (l % 2) 0)

-- the literals below a place, from the oldest on
below : (clauses : List (List ℕ)) (lits reasons : List ℕ) (row : List Bool) → AreReasoned clauses lits reasons → Satisfies row clauses
    → ((i : ℕ) → i < length lits → get_or reasons i 0 ≡ 0 → MakesTrue row (get_or lits i 0))
    → (n i : ℕ) → i < n → i < length lits → MakesTrue row (get_or lits i 0)
below clauses lits reasons row all sat decided zero i lt inside = absurd (omega arith)
below clauses lits reasons row all sat decided (suc n) i lt inside = ⊎_elim
    (λ (z : get_or reasons i 0 ≡ 0). decided i inside z)
    (λ (nz : get_or reasons i 0 ≢ 0).
    let r : ℕ = get_or reasons i 0 in
    let why : Reasoned clauses lits i r = all i inside (omega arith) in
    let some : Any (MakesTrue row) (clause_at clauses r) = sat (r - 1) [] (omega (arith, why.known)) in
    let m : ℕ = some.1 in
    ⊎_elim
    (λ (e : m ≡ get_or lits i 0). subst (MakesTrue row) e some.4)
    (λ (s : StandsBelow lits i (neg m)). absurd (not_both row m some.4 (subst (MakesTrue row) s.2 (below clauses lits reasons row all sat decided n s.0 (omega (arith, s.1)) (omega (arith, s.1))))))
    (subst (λ (x : ℕ). (x ≡ get_or lits i 0) ⊎ StandsBelow lits i (neg x)) some.3 (why.others some.0 m some.2)))
    (cases_eq (get_or reasons i 0) 0)

-- all of them: the law
pub reasons_imply : (clauses : List (List ℕ)) (lits reasons : List ℕ) (row : List Bool) → AreReasoned clauses lits reasons → Satisfies row clauses
    → ((i : ℕ) → i < length lits → get_or reasons i 0 ≡ 0 → MakesTrue row (get_or lits i 0))
    → (i : ℕ) → i < length lits → MakesTrue row (get_or lits i 0)
reasons_imply clauses lits reasons row all sat decided i inside = below clauses lits reasons row all sat decided (length lits) i inside inside
