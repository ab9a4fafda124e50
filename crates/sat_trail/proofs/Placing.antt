-- Each literal has its place, each place its literal, and each decision opens a level.
use Rattle.std.proofs.Common.{◌≡◌, ◌≢◌, ◌≤◌, ◌<◌, ◌+◌, ◌-◌, ◌*◌, ◌/◌, ◌==◌, ℕ, zero, suc, List, [], ◌∷◌, ◌++◌, set, take, length, get_or, arith, sym, ◌∙◌, ap, subst, refl, ◌⊎◌, inl, inr, ⊎_elim, true, false, length-set, get_or-set_same, get_or-set_other, get_or-take}
use Rattle.std.proofs.lemmas.Bool.{cases_eq, cases_lt, eq-eqb, ne_eqb}
use Rattle.std.proofs.lemmas.List.{length_push, get_or_push, get_or_append_left, length-take-le}
use Rattle.std.specs.Prelude.{if◌then◌else◌}
use Rattle.sat_trail.specs.Trail.{IsPlaced, AreStarts, StandsBelow, zeros}
use Rattle.cnf_store.specs.Codes.{neg}
use Rattle.cnf_store.proofs.Lits.{neg_var}

-- two places with one variable are one
pub same_place : (vars : ℕ) (lits at : List ℕ) (p q : ℕ) → IsPlaced vars lits at → p < length lits → q < length lits → get_or lits p 0 / 2 ≡ get_or lits q 0 / 2 → p ≡ q
same_place vars lits at p q is hp hq e =
    let a = (is.placed p hp).1 in let b = (is.placed q hq).1 in
    let c : get_or at (get_or lits p 0 / 2) 0 ≡ get_or at (get_or lits q 0 / 2) 0 = ap (λ (v : ℕ). get_or at v 0) e in
    omega arith

-- a literal on the trail is where the table says
pub stands_placed : (vars : ℕ) (lits at : List ℕ) (limit l : ℕ) → IsPlaced vars lits at → limit ≤ length lits → StandsBelow lits limit l
    → (0 < get_or at (l / 2) 0) × (get_or at (l / 2) 0 - 1 < limit) × (get_or lits (get_or at (l / 2) 0 - 1) 0 ≡ l)
stands_placed vars lits at limit l is le (q, lt, e) =
    let a = (is.placed q (omega arith)).1 in
    let v : get_or lits q 0 / 2 ≡ l / 2 = ap (λ (x : ℕ). x / 2) e in
    let b : get_or at (l / 2) 0 ≡ q + 1 = subst (λ (x : ℕ). get_or at x 0 ≡ q + 1) v a in
    let p : get_or at (l / 2) 0 - 1 ≡ q = omega arith in
    (omega arith, omega arith, ap (λ (x : ℕ). get_or lits x 0) p ∙ e)

-- and so is the complement of one that is false
pub place_of : (vars : ℕ) (lits at : List ℕ) (limit l : ℕ) → IsPlaced vars lits at → limit ≤ length lits → StandsBelow lits limit (neg l)
    → (0 < get_or at (l / 2) 0) × (get_or at (l / 2) 0 - 1 < limit) × (get_or lits (get_or at (l / 2) 0 - 1) 0 ≡ neg l)
place_of vars lits at limit l is le stands =
    subst (λ (v : ℕ). (0 < get_or at v 0) × (get_or at v 0 - 1 < limit) × (get_or lits (get_or at v 0 - 1) 0 ≡ neg l)) (neg_var l) (stands_placed vars lits at limit (neg l) is le stands)

-- literals on the trail are within the variables, and their complements
pub stands_small : (vars : ℕ) (lits at : List ℕ) (limit l : ℕ) → IsPlaced vars lits at → limit ≤ length lits → StandsBelow lits limit (neg l) → l < 2 * vars
stands_small vars lits at limit l is le (q, lt, e) = let a = (is.placed q (omega arith)).0 in omega arith

-- a place given to a variable that has none
zeros_set : (xs : List ℕ) (v x : ℕ) → v < length xs → get_or xs v 0 ≡ 0 → 0 < x → zeros (set xs v x) + 1 ≡ zeros xs
zeros_set [] v x lt e pos = absurd (omega arith)
zeros_set (y ∷ ys) zero x lt e pos = let a : (y == 0) ≡ true = eq-eqb y 0 e in let b : (x == 0) ≡ false = ne_eqb x 0 (λ z. omega arith) in rw (a, b) (omega arith)
zeros_set (y ∷ ys) (suc v) x lt e pos = let h = zeros_set ys v x (omega arith) e pos in omega arith

-- a place taken from a variable that has one
zeros_clear : (xs : List ℕ) (v : ℕ) → v < length xs → 0 < get_or xs v 0 → zeros (set xs v 0) ≡ zeros xs + 1
zeros_clear [] v lt pos = absurd (omega arith)
zeros_clear (y ∷ ys) zero lt pos = let a : (y == 0) ≡ false = ne_eqb y 0 (λ z. omega arith) in rw a (omega arith)
zeros_clear (y ∷ ys) (suc v) lt pos = let h = zeros_clear ys v (omega arith) pos in omega arith

-- so many zeros at most as entries
zeros_le : (xs : List ℕ) → zeros xs ≤ length xs
zeros_le [] = omega arith
zeros_le (x ∷ xs) = let h = zeros_le xs in elim (x == 0) as (λ b. (if b then 1 else 0) + zeros xs ≤ suc (length xs)) [ true ↦ omega arith | false ↦ omega arith ]

-- one more literal, of a variable without a place
pub placed_push : (vars : ℕ) (lits at : List ℕ) (l : ℕ) → IsPlaced vars lits at → l / 2 < vars → get_or at (l / 2) 0 ≡ 0 → IsPlaced vars (lits ++ l ∷ []) (set at (l / 2) (length lits + 1))
placed_push vars lits at l is lt free =
    let n : ℕ = length lits in
    let room : l / 2 < length at = omega (arith, is.size) in
    let len = length_push lits l in
    record {
      size = length-set at (l / 2) (n + 1) ∙ is.size;
      placed = λ i h. ⊎_elim
          (λ (e : i ≡ n). let g : get_or (lits ++ l ∷ []) i 0 ≡ l = get_or_push lits l 0 i (sym e) in
          subst (λ (x : ℕ). (x / 2 < vars) × (get_or (set at (l / 2) (n + 1)) (x / 2) 0 ≡ i + 1)) (sym g) (lt, get_or-set_same at (l / 2) (n + 1) 0 room ∙ ap (λ (x : ℕ). x + 1) (sym e)))
          (λ (ne : i ≢ n). let less : i < n = omega arith in
          let g : get_or (lits ++ l ∷ []) i 0 ≡ get_or lits i 0 = get_or_append_left lits (l ∷ []) 0 i less in
          let p = is.placed i less in
          let apart : get_or lits i 0 / 2 ≢ l / 2 = λ e. let z : get_or at (get_or lits i 0 / 2) 0 ≡ get_or at (l / 2) 0 = ap (λ (x : ℕ). get_or at x 0) e in omega (arith, p.1) in
          subst (λ (x : ℕ). (x / 2 < vars) × (get_or (set at (l / 2) (n + 1)) (x / 2) 0 ≡ i + 1)) (sym g) (p.0, get_or-set_other at (l / 2) (get_or lits i 0 / 2) (n + 1) 0 apart ∙ p.1))
          (cases_eq i n);
      found = λ v h. ⊎_elim
          (λ (e : v ≡ l / 2). let g : get_or (set at (l / 2) (n + 1)) v 0 ≡ n + 1 = ap (λ (x : ℕ). get_or (set at (l / 2) (n + 1)) x 0) e ∙ get_or-set_same at (l / 2) (n + 1) 0 room in
          let m : get_or (lits ++ l ∷ []) (get_or (set at (l / 2) (n + 1)) v 0 - 1) 0 ≡ l = get_or_push lits l 0 (get_or (set at (l / 2) (n + 1)) v 0 - 1) (omega arith) in
          (omega arith, ap (λ (x : ℕ). x / 2) m ∙ sym e))
          (λ (ne : v ≢ l / 2). let g = get_or-set_other at (l / 2) v (n + 1) 0 ne in
          let f = is.found v (omega arith) in
          let m : get_or (lits ++ l ∷ []) (get_or at v 0 - 1) 0 ≡ get_or lits (get_or at v 0 - 1) 0 = get_or_append_left lits (l ∷ []) 0 (get_or at v 0 - 1) (omega arith) in
          subst (λ (x : ℕ). (x ≤ length (lits ++ l ∷ [])) × (get_or (lits ++ l ∷ []) (x - 1) 0 / 2 ≡ v)) (sym g) (omega arith, ap (λ (x : ℕ). x / 2) m ∙ f.1))
          (cases_eq v (l / 2));
      count = let z = zeros_set at (l / 2) (n + 1) room free (omega arith) in omega (arith, is.count);
    }

-- the newest literal taken back
pub placed_pop : (vars : ℕ) (lits at : List ℕ) (l : ℕ) → IsPlaced vars (lits ++ l ∷ []) at → IsPlaced vars lits (set at (l / 2) 0)
placed_pop vars lits at l is =
    let n : ℕ = length lits in
    let len = length_push lits l in
    let g : get_or (lits ++ l ∷ []) n 0 ≡ l = get_or_push lits l 0 n refl in
    let here = subst (λ (x : ℕ). (x / 2 < vars) × (get_or at (x / 2) 0 ≡ n + 1)) g (is.placed n (omega arith)) in
    let room : l / 2 < length at = omega (arith, is.size, here.0) in
    record {
      size = length-set at (l / 2) 0 ∙ is.size;
      placed = λ i h.
          let e : get_or (lits ++ l ∷ []) i 0 ≡ get_or lits i 0 = get_or_append_left lits (l ∷ []) 0 i h in
          let p = subst (λ (x : ℕ). (x / 2 < vars) × (get_or at (x / 2) 0 ≡ i + 1)) e (is.placed i (omega arith)) in
          let apart : get_or lits i 0 / 2 ≢ l / 2 = λ q. let z : get_or at (get_or lits i 0 / 2) 0 ≡ get_or at (l / 2) 0 = ap (λ (x : ℕ). get_or at x 0) q in omega (arith, p.1, here.1) in
          (p.0, get_or-set_other at (l / 2) (get_or lits i 0 / 2) 0 0 apart ∙ p.1);
      found = λ v h. ⊎_elim
          (λ (e : v ≡ l / 2). absurd (let z : get_or (set at (l / 2) 0) v 0 ≡ 0 = ap (λ (x : ℕ). get_or (set at (l / 2) 0) x 0) e ∙ get_or-set_same at (l / 2) 0 0 room in omega arith))
          (λ (ne : v ≢ l / 2). let o = get_or-set_other at (l / 2) v 0 0 ne in
          let f = is.found v (omega arith) in
          let less : get_or at v 0 - 1 < n = ⊎_elim (λ (a : get_or at v 0 - 1 < n). a) (λ (b : n ≤ get_or at v 0 - 1). absurd (
          let z : get_or at v 0 - 1 ≡ n = omega (arith, f.0) in
          ne (sym f.1 ∙ ap (λ (x : ℕ). get_or (lits ++ l ∷ []) x 0 / 2) z ∙ ap (λ (x : ℕ). x / 2) g))) (cases_lt (get_or at v 0 - 1) n) in
          let m : get_or (lits ++ l ∷ []) (get_or at v 0 - 1) 0 ≡ get_or lits (get_or at v 0 - 1) 0 = get_or_append_left lits (l ∷ []) 0 (get_or at v 0 - 1) less in
          subst (λ (x : ℕ). (x ≤ n) × (get_or lits (x - 1) 0 / 2 ≡ v)) (sym o) (omega arith, ap (λ (x : ℕ). x / 2) (sym m) ∙ f.1))
          (cases_eq v (l / 2));
      count = let z = zeros_clear at (l / 2) room (omega (arith, here.1)) in omega (arith, is.count);
    }

-- no literal, and no place
pub placed_none : (vars : ℕ) (at : List ℕ) → length at ≡ vars → ((v : ℕ) → get_or at v 0 ≡ 0) → zeros at ≡ vars → IsPlaced vars [] at
placed_none vars at e none z = record { size = e; placed = λ i h. absurd (omega arith); found = λ v h. absurd (let n = none v in omega arith); count = omega arith }

-- a table of zeros has as many as entries
pub zeros_all : (n : ℕ) (xs : List ℕ) → length xs ≡ n → ((v : ℕ) → get_or xs v 0 ≡ 0) → zeros xs ≡ n
zeros_all zero [] e all = refl
zeros_all zero (x ∷ xs) e all = absurd (omega arith)
zeros_all (suc n) [] e all = absurd (omega arith)
zeros_all (suc n) (x ∷ xs) e all = let h = zeros_all n xs (omega arith) (λ v. all (suc v)) in let a : (x == 0) ≡ true = eq-eqb x 0 (all 0) in rw a (omega arith)

-- an implied literal opens no level
pub starts_imply : (reasons starts : List ℕ) (r : ℕ) → AreStarts reasons starts → 0 < r → AreStarts (reasons ++ r ∷ []) starts
starts_imply reasons starts r s pos =
    let len = length_push reasons r in record {
      each = λ j h. let e = s.each j h in (omega (arith, e.0), get_or_append_left reasons (r ∷ []) 0 (get_or starts j 0) e.0 ∙ e.1);
      rising = s.rising;
      between = λ j p le low high h. ⊎_elim (λ (a : p < length reasons). let e = get_or_append_left reasons (r ∷ []) 0 p a in let k = s.between j p le low high a in omega arith)
          (λ (b : length reasons ≤ p). let e : get_or (reasons ++ r ∷ []) p 0 ≡ r = get_or_push reasons r 0 p (omega arith) in omega arith) (cases_lt p (length reasons));
    }

-- one of two numbers is at most the other
cases_le : (m n : ℕ) → (m ≤ n) ⊎ (n < m)
cases_le m n = ⊎_elim (λ (a : n < m). inr a) (λ (b : m ≤ n). inl b) (cases_lt n m)

-- a decision opens a level at its place
pub starts_decide : (reasons starts : List ℕ) (n : ℕ) → n ≡ length reasons → AreStarts reasons starts → AreStarts (reasons ++ 0 ∷ []) (starts ++ n ∷ [])
starts_decide reasons starts n is s =
    let len = length_push reasons 0 in
    let len2 = length_push starts n in
    record {
      each = λ j h. ⊎_elim
          (λ (a : j < length starts). let e = s.each j a in let g = get_or_append_left starts (n ∷ []) 0 j a in
          subst (λ (x : ℕ). (x < length (reasons ++ 0 ∷ [])) × (get_or (reasons ++ 0 ∷ []) x 0 ≡ 0)) (sym g) (omega (arith, e.0), get_or_append_left reasons (0 ∷ []) 0 (get_or starts j 0) e.0 ∙ e.1))
          (λ (b : length starts ≤ j). let g = get_or_push starts n 0 j (omega arith) in
          subst (λ (x : ℕ). (x < length (reasons ++ 0 ∷ [])) × (get_or (reasons ++ 0 ∷ []) x 0 ≡ 0)) (sym g) (omega arith, get_or_push reasons 0 0 n (sym is)))
          (cases_lt j (length starts));
      rising = λ j k lt h. let gj = get_or_append_left starts (n ∷ []) 0 j (omega arith) in
          ⊎_elim (λ (a : k < length starts). let gk = get_or_append_left starts (n ∷ []) 0 k a in let r = s.rising j k lt a in omega arith)
          (λ (b : length starts ≤ k). let gk = get_or_push starts n 0 k (omega arith) in let e = s.each j (omega arith) in omega (arith, e.0))
          (cases_lt k (length starts));
      between = λ j p le low high h. ⊎_elim
          (λ (a : j ≤ length starts).
          let up : p < n = ⊎_elim (λ (l : j < length starts). let e = s.each j l in let g = get_or_append_left starts (n ∷ []) 0 j l in let q = high (omega arith) in omega (arith, e.0)) (λ (l : length starts ≤ j). let g = get_or_push starts n 0 j (omega arith) in let q = high (omega arith) in omega arith) (cases_lt j (length starts)) in
          let e = get_or_append_left reasons (0 ∷ []) 0 p (omega arith) in
          let k = s.between j p a (λ pos. let g = get_or_append_left starts (n ∷ []) 0 (j - 1) (omega arith) in let q = low pos in omega arith) (λ l. let g = get_or_append_left starts (n ∷ []) 0 j l in let q = high (omega arith) in omega arith) (omega arith) in
          omega arith)
          (λ (b : length starts < j). absurd (let g = get_or_push starts n 0 (j - 1) (omega arith) in let q = low (omega arith) in omega arith))
          (cases_le j (length starts));
    }

-- levels and places from the start of one on taken back
pub starts_cut : (reasons starts : List ℕ) (level cut : ℕ) → AreStarts reasons starts → level < length starts → get_or starts level 0 ≡ cut → AreStarts (take cut reasons) (take level starts)
starts_cut reasons starts level cut s lt is =
    let c = s.each level lt in
    let len : length (take level starts) ≡ level = length-take-le level starts (omega arith) in
    let len2 : length (take cut reasons) ≡ cut = length-take-le cut reasons (omega (arith, c.0)) in
    record {
      each = λ j h. let g = get_or-take level starts j 0 (omega arith) in let e = s.each j (omega arith) in let r = s.rising j level (omega arith) lt in
          subst (λ (x : ℕ). (x < length (take cut reasons)) × (get_or (take cut reasons) x 0 ≡ 0)) (sym g) (omega arith, get_or-take cut reasons (get_or starts j 0) 0 (omega arith) ∙ e.1);
      rising = λ j k l h. let gj = get_or-take level starts j 0 (omega arith) in let gk = get_or-take level starts k 0 (omega arith) in let r = s.rising j k l (omega arith) in omega arith;
      between = λ j p le low high h.
          let e = get_or-take cut reasons p 0 (omega arith) in
          let k = s.between j p (omega arith) (λ pos. let g = get_or-take level starts (j - 1) 0 (omega arith) in let q = low pos in omega arith)
          (λ l. ⊎_elim (λ (a : j < level). let g = get_or-take level starts j 0 a in let q = high (omega arith) in omega arith) (λ (b : level ≤ j). let m : j ≡ level = omega arith in let g = ap (λ (x : ℕ). get_or starts x 0) m in omega arith) (cases_lt j level)) (omega (arith, c.0)) in
          omega arith;
    }

-- no place, and no level
pub starts_none : AreStarts [] []
starts_none = record { each = λ j h. absurd (omega arith); rising = λ j k l h. absurd (omega arith); between = λ j p le low high h. absurd (omega arith) }

-- each level below has a place of its own
start_ge : (reasons starts : List ℕ) → AreStarts reasons starts → (j : ℕ) → j < length starts → j ≤ get_or starts j 0
start_ge reasons starts s zero lt = omega arith
start_ge reasons starts s (suc j) lt = let h = start_ge reasons starts s j (omega arith) in let r = s.rising j (suc j) (omega arith) lt in omega arith

-- no more decisions than places
pub starts_le : (reasons starts : List ℕ) → AreStarts reasons starts → length starts ≤ length reasons
starts_le reasons starts s = ⊎_elim (λ (z : length starts ≡ 0). omega arith)
    (λ (n : length starts ≢ 0). let g = start_ge reasons starts s (length starts - 1) (omega arith) in let e = s.each (length starts - 1) (omega arith) in omega (arith, e.0)) (cases_eq (length starts) 0)
