-- Reasons stay reasons while the trail and the clauses grow, and when it goes back.
use Rattle.std.proofs.Common.{◌≡◌, ◌≢◌, ◌≤◌, ◌<◌, ◌-◌, ◌/◌, ◌==◌, ℕ, zero, suc, List, [], ◌∷◌, ◌++◌, take, length, get_or, arith, sym, ◌∙◌, ap, subst, refl, ◌⊎◌, inl, inr, ⊎_elim, true, get_or-take}
use Rattle.std.proofs.lemmas.Bool.{cases_eq, cases_lt, eq-eqb}
use Rattle.std.proofs.lemmas.List.{length_push, get_or_push, get_or_append_left, length-take-le}
use Rattle.std.specs.List.{All, Contains}
use Rattle.cnf_store.specs.Codes.{neg, clause_at}
use Rattle.sat_trail.specs.Trail.{StandsBelow, IsPlaced, Reasoned, AreReasoned, zeros}
use Rattle.sat_trail.proofs.Placing.{same_place}

-- on a trail that agrees as far as i
reasoned_along : (db : List (List ℕ)) (a b : List ℕ) (i r : ℕ) → ((q : ℕ) → q ≤ i → get_or b q 0 ≡ get_or a q 0) → Reasoned db a i r → Reasoned db b i r
reasoned_along db a b i r same w = record {
  known = w.known;
  inside = subst (Contains (clause_at db r)) (sym (same i (omega arith))) w.inside;
  others = λ k d lt. ⊎_elim (λ (e : get_or (clause_at db r) k d ≡ get_or a i 0). inl (e ∙ sym (same i (omega arith)))) (λ (s : StandsBelow a i (neg (get_or (clause_at db r) k d))). inr (s.0, s.1, same s.0 (omega (arith, s.1)) ∙ s.2)) (w.others k d lt);
}

-- a clause stays where one more is added
clause_same : (db : List (List ℕ)) (c : List ℕ) (r : ℕ) → 0 < r → r ≤ length db → clause_at (db ++ c ∷ []) r ≡ clause_at db r
clause_same db c r pos le = get_or_append_left db (c ∷ []) [] (r - 1) (omega arith)

-- a reason stays where one more is added
reasoned_db : (db : List (List ℕ)) (c lits : List ℕ) (i r : ℕ) → 0 < r → Reasoned db lits i r → Reasoned (db ++ c ∷ []) lits i r
reasoned_db db c lits i r pos w =
    let e = clause_same db c r pos w.known in record {
      known = let n = length_push db c in omega (arith, w.known);
      inside = subst (λ (xs : List ℕ). Contains xs (get_or lits i 0)) (sym e) w.inside;
      others = subst (λ (xs : List ℕ). All (λ m. (m ≡ get_or lits i 0) ⊎ StandsBelow lits i (neg m)) xs) (sym e) w.others;
    }

-- all reasons stay
pub are_reasoned_db : (db : List (List ℕ)) (c lits reasons : List ℕ) → AreReasoned db lits reasons → AreReasoned (db ++ c ∷ []) lits reasons
are_reasoned_db db c lits reasons all = λ i lt pos. reasoned_db db c lits i (get_or reasons i 0) pos (all i lt pos)

-- the older literals keep their reasons
pub are_reasoned_take : (db : List (List ℕ)) (lits reasons : List ℕ) (cut : ℕ) → cut ≤ length lits → AreReasoned db lits reasons → AreReasoned db (take cut lits) (take cut reasons)
are_reasoned_take db lits reasons cut le all = λ i lt pos.
    let n = length-take-le cut lits le in
    let e = get_or-take cut reasons i 0 (omega arith) in
    let w = all i (omega arith) (omega arith) in
    subst (Reasoned db (take cut lits) i) (sym e) (reasoned_along db lits (take cut lits) i (get_or reasons i 0) (λ q h. get_or-take cut lits q 0 (omega arith)) w)

-- one more literal, with a reason where its number is one
pub are_reasoned_push : (db : List (List ℕ)) (lits reasons : List ℕ) (l r : ℕ) → length reasons ≡ length lits → AreReasoned db lits reasons → (0 < r → Reasoned db (lits ++ l ∷ []) (length lits) r) → AreReasoned db (lits ++ l ∷ []) (reasons ++ r ∷ [])
are_reasoned_push db lits reasons l r len all new = λ i lt pos.
    let n = length_push lits l in
    ⊎_elim
    (λ (a : i < length lits).
    let e = get_or_append_left reasons (r ∷ []) 0 i (omega arith) in
    subst (Reasoned db (lits ++ l ∷ []) i) (sym e) (reasoned_along db lits (lits ++ l ∷ []) i (get_or reasons i 0) (λ q h. get_or_append_left lits (l ∷ []) 0 q (omega arith)) (all i a (omega arith))))
    (λ (b : length lits ≤ i).
    let e : get_or (reasons ++ r ∷ []) i 0 ≡ r = get_or_push reasons r 0 i (omega arith) in
    let z : length lits ≡ i = omega arith in
    subst (Reasoned db (lits ++ l ∷ []) i) (sym e) (subst (λ (j : ℕ). Reasoned db (lits ++ l ∷ []) j r) z (new (omega arith))))
    (cases_lt i (length lits))

-- a clause of which all but l are false below n, where l is put
pub reasoned_new : (db : List (List ℕ)) (lits : List ℕ) (l r : ℕ) → r ≤ length db → Contains (clause_at db r) l → All (λ m. (m ≡ l) ⊎ StandsBelow lits (length lits) (neg m)) (clause_at db r) → Reasoned db (lits ++ l ∷ []) (length lits) r
reasoned_new db lits l r le has others =
    let e : get_or (lits ++ l ∷ []) (length lits) 0 ≡ l = get_or_push lits l 0 (length lits) refl in record {
      known = le;
      inside = subst (Contains (clause_at db r)) (sym e) has;
      others = λ k d lt. ⊎_elim (λ (s : get_or (clause_at db r) k d ≡ l). inl (s ∙ sym e)) (λ (s : StandsBelow lits (length lits) (neg (get_or (clause_at db r) k d))). inr (s.0, s.1, get_or_append_left lits (l ∷ []) 0 s.0 s.1 ∙ s.2)) (others k d lt);
    }

-- an entry that is zero is counted
zeros_some : (xs : List ℕ) (v : ℕ) → v < length xs → get_or xs v 0 ≡ 0 → 0 < zeros xs
zeros_some [] v lt e = absurd (omega arith)
zeros_some (x ∷ xs) zero lt e = let a : (x == 0) ≡ true = eq-eqb x 0 e in rw a (omega arith)
zeros_some (x ∷ xs) (suc v) lt e = let h = zeros_some xs v (omega arith) e in omega arith

-- where a variable is free, the trail has room
pub has_room : (vars : ℕ) (lits at : List ℕ) (v : ℕ) → IsPlaced vars lits at → v < vars → get_or at v 0 ≡ 0 → length lits < vars
has_room vars lits at v is lt e = let z = zeros_some at v (omega (arith, is.size)) e in omega (arith, is.count)

-- what stood past a cut is free
pub freed : (vars : ℕ) (lits at now : List ℕ) (cut i : ℕ) → IsPlaced vars lits at → IsPlaced vars (take cut lits) now → cut ≤ i → i < length lits → get_or now (get_or lits i 0 / 2) 0 ≡ 0
freed vars lits at now cut i old new le lt =
    let v : ℕ = get_or lits i 0 / 2 in
    ⊎_elim (λ (e : get_or now v 0 ≡ 0). e)
    (λ (ne : get_or now v 0 ≢ 0).
    let f = new.found v (omega arith) in
    let n = length-take-le cut lits (omega arith) in
    let p : ℕ = get_or now v 0 - 1 in
    let g : get_or (take cut lits) p 0 ≡ get_or lits p 0 = get_or-take cut lits p 0 (omega (arith, f.0)) in
    absurd (let s = same_place vars lits at p i old (omega (arith, f.0)) lt (ap (λ (x : ℕ). x / 2) (sym g) ∙ f.1) in omega (arith, f.0)))
    (cases_eq (get_or now v 0) 0)
