-- The table of values says what the places and the literals say.
use Rattle.std.proofs.Common.{◌≡◌, ◌≢◌, ◌≤◌, ◌<◌, ◌+◌, ◌-◌, ◌*◌, ◌/◌, ◌==◌, ℕ, List, [], ◌∷◌, ◌++◌, set, length, get_or, replicate, arith, sym, ◌∙◌, ap, subst, refl, ⊎_elim, true, false, length-set, get_or-set_same, get_or-set_other}
use Rattle.std.specs.Prelude.{if◌then◌else◌}
use Rattle.std.proofs.lemmas.Bool.{cases_eq, cases_lt, eq-eqb, ne_eqb}
use Rattle.std.proofs.lemmas.List.{length_push, get_or_push, get_or_append_left, get_or-replicate, get_or_past, length-replicate}
use Rattle.cnf_store.specs.Codes.{neg}
use Rattle.cnf_store.specs.declared.value.Value.{Value}
use Rattle.cnf_store.specs.declared.value.Value.TheVariants.{Free, True, False}
use Rattle.cnf_store.proofs.Lits.{neg_var, neg_other, same_var}
use Rattle.sat_trail.specs.Trail.{IsPlaced, AreValues, value_of}
use Rattle.sat_trail.proofs.Placing.{placed_pop}

-- the value of a literal l whose variable has place p, where x stands
worth : ℕ → ℕ → ℕ → Value
worth p x l = if p == 0 then Free else (if x == l then True else False)

-- with no place
worth_free : (p x l : ℕ) → p ≡ 0 → worth p x l ≡ Free
unfolding worth
worth_free p x l e = let a : (p == 0) ≡ true = eq-eqb p 0 e in rw a refl

-- where it stands itself
worth_true : (p x l : ℕ) → 0 < p → x ≡ l → worth p x l ≡ True
unfolding worth
worth_true p x l some e = let a : (p == 0) ≡ false = ne_eqb p 0 (λ z. omega arith) in let b : (x == l) ≡ true = eq-eqb x l e in rw (a, b) refl

-- where another stands, its complement
worth_false : (p x l : ℕ) → 0 < p → x ≢ l → worth p x l ≡ False
unfolding worth
worth_false p x l some ne = let a : (p == 0) ≡ false = ne_eqb p 0 (λ z. omega arith) in let b : (x == l) ≡ false = ne_eqb x l ne in rw (a, b) refl

-- the same of the lists
value_is : (lits at : List ℕ) (l : ℕ) → value_of lits at l ≡ worth (get_or at (l / 2) 0) (get_or lits (get_or at (l / 2) 0 - 1) 0) l
unfolding worth
value_is lits at l = refl

-- a variable without a place leaves its literals free
value_free : (lits at : List ℕ) (l : ℕ) → get_or at (l / 2) 0 ≡ 0 → value_of lits at l ≡ Free
value_free lits at l e = value_is lits at l ∙ worth_free (get_or at (l / 2) 0) (get_or lits (get_or at (l / 2) 0 - 1) 0) l e

-- two trails that agree on a variable agree on its literals
value_same : (lits more at now : List ℕ) (l : ℕ) → get_or now (l / 2) 0 ≡ get_or at (l / 2) 0 → (0 < get_or at (l / 2) 0 → get_or more (get_or at (l / 2) 0 - 1) 0 ≡ get_or lits (get_or at (l / 2) 0 - 1) 0) → value_of more now l ≡ value_of lits at l
value_same lits more at now l e agree = ⊎_elim
    (λ (z : get_or at (l / 2) 0 ≡ 0). value_free more now l (e ∙ z) ∙ sym (value_free lits at l z))
    (λ (nz : get_or at (l / 2) 0 ≢ 0).
    value_is more now l
    ∙ ap (λ (p : ℕ). worth p (get_or more (p - 1) 0) l) e
    ∙ ap (λ (x : ℕ). worth (get_or at (l / 2) 0) x l) (agree (omega arith))
    ∙ sym (value_is lits at l))
    (cases_eq (get_or at (l / 2) 0) 0)

-- two entries that were written, and all others
two_set : (values : List Value) (l k : ℕ) (a b : Value) → k ≢ l → k ≢ neg l → get_or (set (set values l a) (neg l) b) k Free ≡ get_or values k Free
two_set values l k a b na nb = get_or-set_other (set values l a) (neg l) k b Free nb ∙ get_or-set_other values l k a Free na

-- the first of two entries that were written
first_set : (values : List Value) (l : ℕ) (a b : Value) → l < length values → get_or (set (set values l a) (neg l) b) l Free ≡ a
first_set values l a b lt = get_or-set_other (set values l a) (neg l) l b Free (λ e. neg_other l (sym e)) ∙ get_or-set_same values l a Free lt

-- the second of them
second_set : (values : List Value) (l : ℕ) (a b : Value) → neg l < length values → get_or (set (set values l a) (neg l) b) (neg l) Free ≡ b
second_set values l a b lt = get_or-set_same (set values l a) (neg l) b Free (omega (arith, length-set values l a))

-- writing keeps the lengths
size_set : (at : List ℕ) (values : List Value) (v x l : ℕ) (a b : Value) → length values ≡ 2 * length at → length (set (set values l a) (neg l) b) ≡ 2 * length (set at v x)
size_set at values v x l a b e = omega (arith, length-set (set values l a) (neg l) b, length-set values l a, length-set at v x)

-- one more literal
pub values_push : (vars : ℕ) (lits at : List ℕ) (values : List Value) (l : ℕ) → IsPlaced vars lits at → AreValues lits at values → l / 2 < length at → get_or at (l / 2) 0 ≡ 0
    → AreValues (lits ++ l ∷ []) (set at (l / 2) (length lits + 1)) (set (set values l True) (neg l) False)
values_push vars lits at values l is are lt free =
    let n : ℕ = length lits in
    let now : List ℕ = set at (l / 2) (n + 1) in
    let more : List ℕ = lits ++ l ∷ [] in
    let here : get_or now (l / 2) 0 ≡ n + 1 = get_or-set_same at (l / 2) (n + 1) 0 lt in
    let there : get_or now (neg l / 2) 0 ≡ n + 1 = ap (λ (v : ℕ). get_or now v 0) (neg_var l) ∙ here in
    let top : get_or more n 0 ≡ l = get_or_push lits l 0 n refl in
    let back : n + 1 - 1 ≡ n = omega arith in
    let last : (p : ℕ) → p ≡ n + 1 → get_or more (p - 1) 0 ≡ l = λ p e. ap (λ (x : ℕ). get_or more (x - 1) 0) e ∙ ap (λ (x : ℕ). get_or more x 0) back ∙ top in
    record {
      size = size_set at values (l / 2) (n + 1) l True False are.size;
      each = λ k room. ⊎_elim
          (λ (e : k ≡ l). subst (λ (x : ℕ). get_or (set (set values l True) (neg l) False) x Free ≡ value_of more now x) (sym e)
          (first_set values l True False (omega (arith, are.size))
          ∙ sym (value_is more now l ∙ worth_true (get_or now (l / 2) 0) (get_or more (get_or now (l / 2) 0 - 1) 0) l (omega arith) (last (get_or now (l / 2) 0) here))))
          (λ (ne : k ≢ l). ⊎_elim
          (λ (e : k ≡ neg l). subst (λ (x : ℕ). get_or (set (set values l True) (neg l) False) x Free ≡ value_of more now x) (sym e)
          (second_set values l True False (omega (arith, are.size))
          ∙ sym (value_is more now (neg l) ∙ worth_false (get_or now (neg l / 2) 0) (get_or more (get_or now (neg l / 2) 0 - 1) 0) (neg l) (omega arith) (λ q. neg_other l (sym q ∙ last (get_or now (neg l / 2) 0) there)))))
          (λ (no : k ≢ neg l).
          let apart : k / 2 ≢ l / 2 = λ q. no (same_var k l q ne) in
          two_set values l k True False ne no
          ∙ are.each k (omega (arith, length-set at (l / 2) (n + 1)))
          ∙ sym (value_same lits more at now k (get_or-set_other at (l / 2) (k / 2) (n + 1) 0 apart) (λ some. let f = is.found (k / 2) some in get_or_append_left lits (l ∷ []) 0 (get_or at (k / 2) 0 - 1) (omega (arith, f.0)))))
          (cases_eq k (neg l)))
          (cases_eq k l);
    }

-- the newest literal taken back
pub values_pop : (vars : ℕ) (lits at : List ℕ) (values : List Value) (l : ℕ) → IsPlaced vars (lits ++ l ∷ []) at → AreValues (lits ++ l ∷ []) at values
    → AreValues lits (set at (l / 2) 0) (set (set values l Free) (neg l) Free)
values_pop vars lits at values l is are =
    let n : ℕ = length lits in
    let now : List ℕ = set at (l / 2) 0 in
    let more : List ℕ = lits ++ l ∷ [] in
    let len = length_push lits l in
    let top : get_or more n 0 ≡ l = get_or_push lits l 0 n refl in
    let inside : l / 2 < vars = subst (λ (x : ℕ). x / 2 < vars) top (is.placed n (omega arith)).0 in
    let lt : l / 2 < length at = omega (arith, is.size) in
    let new : IsPlaced vars lits now = placed_pop vars lits at l is in
    let here : get_or now (l / 2) 0 ≡ 0 = get_or-set_same at (l / 2) 0 0 lt in
    let there : get_or now (neg l / 2) 0 ≡ 0 = ap (λ (v : ℕ). get_or now v 0) (neg_var l) ∙ here in
    record {
      size = size_set at values (l / 2) 0 l Free Free are.size;
      each = λ k room. ⊎_elim
          (λ (e : k ≡ l). subst (λ (x : ℕ). get_or (set (set values l Free) (neg l) Free) x Free ≡ value_of lits now x) (sym e)
          (first_set values l Free Free (omega (arith, are.size)) ∙ sym (value_free lits now l here)))
          (λ (ne : k ≢ l). ⊎_elim
          (λ (e : k ≡ neg l). subst (λ (x : ℕ). get_or (set (set values l Free) (neg l) Free) x Free ≡ value_of lits now x) (sym e)
          (second_set values l Free Free (omega (arith, are.size)) ∙ sym (value_free lits now (neg l) there)))
          (λ (no : k ≢ neg l).
          let apart : k / 2 ≢ l / 2 = λ q. no (same_var k l q ne) in
          let same : get_or now (k / 2) 0 ≡ get_or at (k / 2) 0 = get_or-set_other at (l / 2) (k / 2) 0 0 apart in
          two_set values l k Free Free ne no
          ∙ are.each k (omega (arith, length-set at (l / 2) 0))
          ∙ sym (value_same more lits at now k same (λ some. let f = new.found (k / 2) (omega arith) in sym (get_or_append_left lits (l ∷ []) 0 (get_or at (k / 2) 0 - 1) (omega (arith, f.0))))))
          (cases_eq k (neg l)))
          (cases_eq k l);
    }

-- a table of free values is free at each entry
free_at : (n l : ℕ) → get_or (replicate n Free) l Free ≡ Free
free_at n l = ⊎_elim (λ (a : l < n). get_or-replicate n l Free Free a) (λ (b : n ≤ l). get_or_past (replicate n Free) l Free (omega (arith, length-replicate {A = Value} n Free))) (cases_lt l n)

-- nothing assigned
pub values_none : (at : List ℕ) (values : List Value) → values ≡ replicate (2 * length at) Free → ((v : ℕ) → get_or at v 0 ≡ 0) → AreValues [] at values
values_none at values e none = record {
  size = ap length e ∙ length-replicate {A = Value} (2 * length at) Free;
  each = λ l lt. ap (λ (vs : List Value). get_or vs l Free) e ∙ free_at (2 * length at) l ∙ sym (value_free [] at l (none (l / 2)));
}
