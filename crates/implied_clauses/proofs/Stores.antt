-- Stores of clauses, of which some were given.
use Rattle.std.proofs.Common.{◌≡◌, ◌∙◌, ◌≤◌, ◌+◌, ◌-◌, ℕ, List, [], ◌∷◌, ◌++◌, Some, length, replicate, take, refl, ap, sym, subst, arith, Bool, true, false}
use Rattle.std.specs.List.{All, Any}
use Rattle.std.proofs.lemmas.List.{replicate-append-replicate, take_all}
use Rattle.std.proofs.lemmas.List.Elements.{All-pop, All-push, All-weaker}
use Rattle.cnf_store.specs.Codes.{MakesTrue, Satisfies}
use Rattle.implied_clauses.specs.Implied.{Implies, chosen}

-- one clause more that is given
pub chosen_given : (bs : List Bool) (cs : List (List ℕ)) (c : List ℕ) → length bs ≡ length cs → chosen (bs ++ true ∷ []) (cs ++ c ∷ []) ≡ chosen bs cs ++ c ∷ []
chosen_given [] [] c e = refl
chosen_given [] (x ∷ cs) c e = absurd (omega arith)
chosen_given (b ∷ bs) [] c e = absurd (omega arith)
chosen_given (true ∷ bs) (x ∷ cs) c e = ap (λ (xs : List (List ℕ)). x ∷ xs) (chosen_given bs cs c (omega arith))
chosen_given (false ∷ bs) (x ∷ cs) c e = chosen_given bs cs c (omega arith)

-- one clause more that isn't
pub chosen_other : (bs : List Bool) (cs : List (List ℕ)) (c : List ℕ) → length bs ≡ length cs → chosen (bs ++ false ∷ []) (cs ++ c ∷ []) ≡ chosen bs cs
chosen_other [] [] c e = refl
chosen_other [] (x ∷ cs) c e = absurd (omega arith)
chosen_other (b ∷ bs) [] c e = absurd (omega arith)
chosen_other (true ∷ bs) (x ∷ cs) c e = ap (λ (xs : List (List ℕ)). x ∷ xs) (chosen_other bs cs c (omega arith))
chosen_other (false ∷ bs) (x ∷ cs) c e = chosen_other bs cs c (omega arith)

-- what satisfies one clause more satisfies those before, and it
more_satisfied : (row : List Bool) (gs : List (List ℕ)) (c : List ℕ) → Satisfies row (gs ++ c ∷ []) → Satisfies row gs × Any (MakesTrue row) c
more_satisfied row gs c sat = All-pop (Any (MakesTrue row)) (gs ++ c ∷ []) gs (Some c) refl sat

-- all are implied still after one more is given, and it is
pub given_implied : (bs : List Bool) (cs : List (List ℕ)) (c : List ℕ) → length bs ≡ length cs → All (Implies (chosen bs cs)) cs → All (Implies (chosen (bs ++ true ∷ []) (cs ++ c ∷ []))) (cs ++ c ∷ [])
given_implied bs cs c size implied =
    let gs : List (List ℕ) = chosen bs cs in
    let more : List (List ℕ) = gs ++ c ∷ [] in
    subst (λ (xs : List (List ℕ)). All (Implies xs) (cs ++ c ∷ [])) (sym (chosen_given bs cs c size))
    (All-push (Implies more) cs c (All-weaker (Implies gs) (Implies more) (λ x is row sat. is row (more_satisfied row gs c sat).0) cs implied) (λ row sat. (more_satisfied row gs c sat).1))

-- and after one that they imply
pub other_implied : (bs : List Bool) (cs : List (List ℕ)) (c : List ℕ) → length bs ≡ length cs → All (Implies (chosen bs cs)) cs → Implies (chosen bs cs) c → All (Implies (chosen (bs ++ false ∷ []) (cs ++ c ∷ []))) (cs ++ c ∷ [])
other_implied bs cs c size implied is = subst (λ (xs : List (List ℕ)). All (Implies xs) (cs ++ c ∷ [])) (sym (chosen_other bs cs c size)) (All-push (Implies (chosen bs cs)) cs c implied is)

-- more places without marks
pub widened : (n : ℕ) (marks : List Bool) → length marks ≤ n → marks ≡ replicate (length marks) false → take n marks ++ replicate (n - length marks) false ≡ replicate n false
widened n marks le none =
    let size : length marks + (n - length marks) ≡ n = omega arith in
    ap (λ (xs : List Bool). xs ++ replicate (n - length marks) false) (take_all n marks le ∙ none)
    ∙ replicate-append-replicate (length marks) (n - length marks) false
    ∙ ap (λ (k : ℕ). replicate k false) size
