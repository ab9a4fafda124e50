-- A question has as many clauses whichever its literals are, and a log is trimmed over so many.
use Rattle.std.proofs.Common.{Result, Ok, Err, IfOk, ◌≡◌, ◌+◌, ◌*◌, ◌-◌, ℕ, ℤ, true, List, [], ◌∷◌, ◌++◌, length, flat_map, map, refl, sym, subst, arith, length-append}
use Rattle.std.specs.List.{range_with_len}
use Rattle.circ_model.specs.Meaning.{places_of}
use Rattle.cnf_store.specs.Clauses.{Formula}
use Rattle.sat_log.specs.Derivations.{Line, IsAccepted}
use Rattle.log_trim.specs.Trimming.{IsTrimmed}
use Rattle.frame_unroll.specs.Frames.{cnf_literal, literal_in, differ_clauses, question}
use Rattle.frame_unroll.specs.Unrolled.{Unrolling, clauses_of, plain_clauses, asks, asking}
use Rattle.cert_writer.specs.Writing.{IsTrimmedLog}

same_lengths : (f g : ℕ → List (List ℤ)) (xs : List ℕ) → ((x : ℕ) → length (f x) ≡ length (g x)) → length (flat_map f xs) ≡ length (flat_map g xs)
same_lengths f g [] same = refl
same_lengths f g (x ∷ xs) same =
    let one = same x in
    let more = same_lengths f g xs same in
    omega (arith, length-append (f x) (flat_map f xs), length-append (g x) (flat_map g xs))

same_appended : (xs ys zs : List (List ℤ)) → length xs ≡ length ys → length (xs ++ zs) ≡ length (ys ++ zs)
same_appended xs ys zs e = omega (arith, length-append xs zs, length-append ys zs)

same_behind : (xs ys zs : List (List ℤ)) → length xs ≡ length ys → length (zs ++ xs) ≡ length (zs ++ ys)
same_behind xs ys zs e = omega (arith, length-append zs xs, length-append zs ys)

questions_alike : (name : ℕ → ℕ → ℤ) (variables a b c d first count : ℕ) → length (question name variables a b first count) ≡ length (question name variables c d first count)
questions_alike name variables a b c d first count =
    let f : ℕ → List (List ℤ) = λ i. differ_clauses name (first + i) (variables + i) a b in
    let g : ℕ → List (List ℤ) = λ i. differ_clauses name (first + i) (variables + i) c d in
    let range : List ℕ = range_with_len 0 count in
    same_appended (flat_map f range) (flat_map g range) (map (λ i. cnf_literal true (variables + i)) range ∷ []) (same_lengths f g range (λ x. refl))

pub asked_alike : (u : Unrolling) (a b c d first last : ℕ) → length (clauses_of (asking u (asks a b first last))) ≡ length (clauses_of (asking u (asks c d first last)))
asked_alike u a b c d first last =
    let n : ℕ = places_of u.pair in
    same_behind (question (literal_in n) (u.frames * n) a b first (last - first + 1)) (question (literal_in n) (u.frames * n) c d first (last - first + 1)) (plain_clauses u)
    (questions_alike (literal_in n) (u.frames * n) a b c d first (last - first + 1))

-- what a trimmed log is over a formula with so many clauses
pub trimmed_over : {E : Type 0} (formula : Formula) (given : ℕ) (lines : List Line) (r : Result (List Line) E) → given ≡ length formula.clauses → IsAccepted formula lines
    → IfOk r (λ kept. (f : Formula) → length f.clauses ≡ given → IsAccepted f lines → IsAccepted f kept) → IfOk r (IsTrimmed given) → IfOk r (IsTrimmedLog formula)
trimmed_over formula given lines (Ok kept) e is accepted trimmed = record { accepted = accepted formula (sym e) is; trimmed = subst (λ (n : ℕ). IsTrimmed n kept) e trimmed }
trimmed_over formula given lines (Err x) e is accepted trimmed = trimmed
