-- What a clause over two literals says of a question, and what a walk along a list shows of all of it.
use Rattle.std.proofs.Common.{◌≡◌, ◌<◌, ◌≤◌, ◌+◌, ◌∙◌, ◌⊎◌, [], ◌∷◌, ℕ, List, refl, sym, subst, get_or, length, take, arith, ⊎_elim}
use Rattle.std.specs.List.{All}
use Rattle.std.proofs.lemmas.List.{take_all, take_more}
use Rattle.std.proofs.lemmas.List.Elements.{All-push}
use Rattle.cnf_store.specs.Codes.{MakesTrue}
use Rattle.implied_clauses.specs.Implied.{Implies}

-- an implied clause each of whose literals is one of two implies that one of these is true
pub refutes : (given : List (List ℕ)) (clause : List ℕ) (x y : ℕ) → Implies given clause → All (λ (l : ℕ). (l ≡ x) ⊎ (l ≡ y)) clause → Implies given (x ∷ y ∷ [])
refutes given clause x y implied over row satisfied =
    let (k, l, lt, at, is) = implied row satisfied in
    ⊎_elim
    (λ (e : get_or clause k l ≡ x). (0, x, omega arith, refl, subst (MakesTrue row) (sym at ∙ e) is))
    (λ (e : get_or clause k l ≡ y). (1, y, omega arith, refl, subst (MakesTrue row) (sym at ∙ e) is))
    (over k l lt)

-- one item more
pub one_more : {X : Type 0} (P : X → Type 0) (xs : List X) (i : ℕ) (d : X) → i < length xs → All P (take i xs) → P (get_or xs i d) → All P (take (i + 1) xs)
one_more P xs i d lt all here = subst (All P) (sym (take_more xs i d lt)) (All-push P (take i xs) (get_or xs i d) all here)

-- all of them
pub whole : {X : Type 0} (P : X → Type 0) (xs : List X) (i : ℕ) → length xs ≤ i → All P (take i xs) → All P xs
whole P xs i all = subst (All P) (take_all i xs all)
