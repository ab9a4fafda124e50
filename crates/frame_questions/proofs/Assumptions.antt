-- Clauses of what is assumed, and what a solver's answer to them says of the paths.
use Rattle.std.proofs.Common.{◌≡◌, ◌∙◌, ◌++◌, ℕ, ℤ, List, [], ◌∷◌, sym, ap, ap₂, refl, Bool, true, false, ◌||◌, true≢false, append_assoc, get_or}
use Rattle.std.specs.Prelude.{Some, None, ◌*◌}
use Rattle.std.specs.List.{All}
use Rattle.std.proofs.lemmas.Bool.{and_parts, and_from}
use Rattle.std.proofs.lemmas.List.Folds.{list_all-append}
use Rattle.std.proofs.lemmas.List.Elements.{All-cons, All-head, All-tail, All-nil}
use Rattle.circ_model.specs.Meaning.{literal_value, IsSoundPair, Path, places_of}
use Rattle.cnf_store.specs.Clauses.{Formula, clause_true, literal_true, satisfies}
use Rattle.product_machine.specs.Cells.{Shows}
use Rattle.sat_core.specs.Answers.{joined}
use Rattle.frame_unroll.specs.declared.question.Question.{Question}
use Rattle.frame_questions.specs.Assuming.{IsAssumable, IsFoundUnder, assumed_clause, assumed_clauses, formula_under}
use Rattle.frame_unroll.specs.Unrolled.{asking}
use Rattle.frame_unroll.specs.Frames.{literal_in, values}
use Rattle.frame_unroll.specs.Unrolled.{Unrolling, IsSought, IsUnrolling, asked_clauses, clauses_of, plain_clauses, variables_of, formula_of}
use Rattle.frame_unroll.proofs.Assigning.{assignment_of, assigned, assignment_shows}
use Rattle.frame_unroll.proofs.Exact.{literal_says}
use Rattle.frame_unroll.proofs.Reading.{literal_shown}
use Rattle.frame_unroll.proofs.Standing.{bare_clauses}

-- it is true in the values of an assignment
abbrev IsTrueIn : ℕ → List Bool → ℕ × ℕ → Type 0
IsTrueIn n a p = literal_value (values a n p.0) p.1 ≡ true

one_to : (b : Bool) → (b || false) ≡ true → b ≡ true
one_to true h = refl
one_to false h = h

one_from : (b : Bool) → b ≡ true → (b || false) ≡ true
one_from true h = refl
one_from false h = h

assumed_to : (n : ℕ) (a : List Bool) (assumed : List (ℕ × ℕ)) → satisfies a (assumed_clauses n assumed) ≡ true → All (IsTrueIn n a) assumed
assumed_to n a [] h = All-nil (IsTrueIn n a)
assumed_to n a (p ∷ ps) h =
    let parts = and_parts (clause_true a (assumed_clause n p)) (satisfies a (assumed_clauses n ps)) h in
    All-cons (IsTrueIn n a) p ps (sym (literal_says n a p.0 p.1) ∙ one_to (literal_true a (literal_in n p.0 p.1)) parts.0) (assumed_to n a ps parts.1)

assumed_from : (n : ℕ) (a : List Bool) (assumed : List (ℕ × ℕ)) → All (IsTrueIn n a) assumed → satisfies a (assumed_clauses n assumed) ≡ true
assumed_from n a [] h = refl
assumed_from n a (p ∷ ps) h =
    and_from (clause_true a (assumed_clause n p)) (satisfies a (assumed_clauses n ps))
    (one_from (literal_true a (literal_in n p.0 p.1)) (literal_says n a p.0 p.1 ∙ All-head (IsTrueIn n a) p ps h))
    (assumed_from n a ps (All-tail (IsTrueIn n a) p ps h))

-- all three parts together
pub all_parts : (u : Unrolling) (q : Question) (assumed : List (ℕ × ℕ)) (shared own : Formula) (asked : List (List ℤ)) → u.asked ≡ None → shared ≡ formula_of u → own.vars ≡ variables_of (asking u q)
    → asked ≡ asked_clauses (places_of u.pair) (u.frames * places_of u.pair) (Some q) → own.clauses ≡ asked ++ assumed_clauses (places_of u.pair) assumed → joined shared own ≡ formula_under u q assumed
all_parts u q assumed shared own asked none frames vars question clauses =
    ap₂ (λ (v : ℕ) (cs : List (List ℤ)). record { vars = v; clauses = cs }) vars
    (ap₂ (λ (xs ys : List (List ℤ)). xs ++ ys) (ap (λ (f : Formula). f.clauses) frames ∙ bare_clauses u none)
    (clauses ∙ ap (λ (xs : List (List ℤ)). xs ++ assumed_clauses (places_of u.pair) assumed) question)
    ∙ sym (append_assoc (plain_clauses u) (asked_clauses (places_of u.pair) (u.frames * places_of u.pair) (Some q)) (assumed_clauses (places_of u.pair) assumed)))

-- no row satisfies them: no path is sought on which what is assumed is true
pub none_under : (u : Unrolling) (q : Question) (assumed : List (ℕ × ℕ)) → IsSoundPair u.pair → IsUnrolling (asking u q) → All (IsAssumable u) assumed → ((row : List Bool) → satisfies row (formula_under u q assumed).clauses ≡ false) → IsFoundUnder u q assumed None
none_under u q assumed is fine literals none path sought true_there =
    let a : List Bool = assignment_of (asking u q) path in
    let n : ℕ = places_of u.pair in
    let shown = assignment_shows (asking u q) path in
    let each : All (IsTrueIn n a) assumed = λ k d lt. literal_shown u.pair u.frames a path (get_or assumed k d).0 (get_or assumed k d).1 shown (literals k d lt).0 (literals k d lt).1 ∙ true_there k d lt in
    let both : satisfies a (formula_under u q assumed).clauses ≡ true =
    list_all-append (clause_true a) (clauses_of (asking u q)) (assumed_clauses n assumed)
    ∙ and_from (satisfies a (clauses_of (asking u q))) (satisfies a (assumed_clauses n assumed)) (assigned (asking u q) path is fine sought) (assumed_from n a assumed each) in
    true≢false (sym both ∙ none a)

-- a row that satisfies them satisfies those of the frames and the question, and what is assumed is true in it
pub both_under : (u : Unrolling) (q : Question) (assumed : List (ℕ × ℕ)) (row : List Bool) → satisfies row (formula_under u q assumed).clauses ≡ true → (satisfies row (clauses_of (asking u q)) ≡ true) × (satisfies row (assumed_clauses (places_of u.pair) assumed) ≡ true)
both_under u q assumed row sat = and_parts (satisfies row (clauses_of (asking u q))) (satisfies row (assumed_clauses (places_of u.pair) assumed)) (sym (list_all-append (clause_true row) (clauses_of (asking u q)) (assumed_clauses (places_of u.pair) assumed)) ∙ sat)

-- the path that is read from it is sought, and what is assumed is true on it
pub found_under : (u : Unrolling) (q : Question) (assumed : List (ℕ × ℕ)) (row : List Bool) (path : Path) → All (IsAssumable u) assumed → satisfies row (formula_under u q assumed).clauses ≡ true
    → IsSought (asking u q) path → Shows u.pair u.frames (values row (places_of u.pair)) path → IsFoundUnder u q assumed (Some path)
found_under u q assumed row path literals sat sought shown =
    let each = assumed_to (places_of u.pair) row assumed (both_under u q assumed row sat).1 in
    (sought, λ k d lt. sym (literal_shown u.pair u.frames row path (get_or assumed k d).0 (get_or assumed k d).1 shown (literals k d lt).0 (literals k d lt).1) ∙ each k d lt)
