-- The sizes of literals.
use Rattle.std.proofs.Common.{◌≡◌, ◌≤◌, ◌+◌, ℕ, Bool, true, false, map, subst, sym, arith, get_or}
use Rattle.std.specs.Prelude.{unsigned_abs}
use Rattle.std.specs.List.{range_with_len}
use Rattle.std.proofs.lemmas.List.FromFn.{get_or-map-range_with_len, length-map-range_with_len}
use Rattle.cnf_store.specs.Clauses.{IsLiteral, AreLiterals}
use Rattle.frame_unroll.specs.Frames.{cnf_literal}

-- a literal's variable
pub literal_size : (positive : Bool) (m : ℕ) → unsigned_abs (cnf_literal positive m) ≡ m + 1
literal_size true m = omega arith
literal_size false m = omega arith

-- the new variables of a question are among those that are there
pub some_within : (vars d count : ℕ) → d + count ≤ vars → AreLiterals vars (map (λ i. cnf_literal true (d + i)) (range_with_len 0 count))
some_within vars d count room k e lt =
    let len = length-map-range_with_len (λ i. cnf_literal true (d + i)) 0 count in
    let at : get_or (map (λ i. cnf_literal true (d + i)) (range_with_len 0 count)) k e ≡ cnf_literal true (d + k) =
    get_or-map-range_with_len (λ i. cnf_literal true (d + i)) 0 count k k e (omega (arith, len)) (omega arith) in
    subst (IsLiteral vars) (sym at) (omega arith, omega (arith, len))
