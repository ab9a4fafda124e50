-- A number that has grown past a limit stays past it.
use Rattle.std.proofs.Common.{◌≡◌, ℕ, ◌+◌, ◌-◌, ◌*◌, ◌<◌, ◌≤◌, Bool, true, false, ◌&&◌, leb, None, refl, ap, drop, length, get_or, add-one, drop-cons, List, [], ◌∷◌, arith}
use Rattle.std.proofs.lemmas.Bool.{lt-leb}
use Rattle.plain_text.specs.Words.{is_plain, number_word}
use Rattle.plain_text.specs.Numbers.{value_from}

pub grows : (n : ℕ) (ds : List ℕ) → n ≤ value_from n ds
grows n [] = omega arith
grows n (d ∷ ds) = let h = grows (10 * n + (d - 48)) ds in omega arith

and_false : (a : Bool) → (a && false) ≡ false
and_false true = refl
and_false false = refl

pub too_big : (limit : ℕ) (word : List ℕ) (value i : ℕ) → value_from value (drop i word) ≡ value_from 0 word → i < length word → limit < 10 * value + (get_or word i 0 - 48) → number_word limit word ≡ None
too_big limit word value i e lt over =
    let d : drop i word ≡ get_or word i 0 ∷ drop (i + 1) word = rw add-one (drop-cons word i 0 lt) in
    let v : value_from value (drop i word) ≡ value_from (10 * value + (get_or word i 0 - 48)) (drop (i + 1) word) = ap (value_from value) d in
    let g = grows (10 * value + (get_or word i 0 - 48)) (drop (i + 1) word) in
    let l : leb (value_from 0 word) limit ≡ false = lt-leb _ _ (omega arith) in
    let a = and_false (is_plain word) in
    rw (l, a) refl
