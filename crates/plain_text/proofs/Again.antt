-- Pieces and numbers that are written are read again.
use Rattle.std.proofs.Common.{◌≡◌, ◌≢◌, ℕ, ◌+◌, ◌-◌, ◌*◌, ◌%◌, ◌^◌, ◌<◌, ◌≤◌, ◌&&◌, Bool, true, false, leb, List, [], ◌∷◌, ◌++◌, length, get_or, Some, refl, sym, ap, ◌∙◌, arith, decimal, length-append}
use Rattle.std.specs.List.{AllByRecursion}
use Rattle.std.proofs.lemmas.Bool.{eq-eqb, ne_eqb, le-leb}
use Rattle.std.proofs.lemmas.Fmt.{decimal_by_steps, first_decimal}
use Rattle.plain_text.specs.Pieces.{pieces, last_of, is_byte}
use Rattle.plain_text.specs.Numbers.{IsDigit, SpellsNumber, digits, is_digit, number_of, value_from}
use Rattle.plain_text.specs.Words.{are_digits, number_word}

-- a piece that is written before a separator is read again
pub piece_again : (separator : ℕ) (text rest : List ℕ) → AllByRecursion (λ b. b ≢ separator) text → pieces separator (text ++ separator ∷ rest) ≡ text ∷ pieces separator rest
unfolding pieces
piece_again separator [] rest all = let t = eq-eqb separator separator refl in rw t refl
piece_again separator (b ∷ text) rest all = let t = ne_eqb b separator all.0 in let h = piece_again separator text rest all.1 in rw (t, h) refl

pub last_again : (separator : ℕ) (text rest : List ℕ) → AllByRecursion (λ b. b ≢ separator) text → last_of separator (text ++ separator ∷ rest) ≡ last_of separator rest
unfolding last_of
last_again separator [] rest all = let t = eq-eqb separator separator refl in rw t refl
last_again separator (b ∷ text) rest all = let t = ne_eqb b separator all.0 in let p = piece_again separator text rest all.1 in let h = last_again separator text rest all.1 in rw (t, p) h

value_push : (n : ℕ) (ds : List ℕ) (d : ℕ) → value_from n (ds ++ d ∷ []) ≡ 10 * value_from n ds + (d - 48)
value_push n [] d = refl
value_push n (x ∷ ds) d = value_push (10 * n + (x - 48)) ds d

digits_push : (ds : List ℕ) (d : ℕ) → AllByRecursion IsDigit ds → IsDigit d → AllByRecursion IsDigit (ds ++ d ∷ [])
digits_push [] d all is = (is, tt)
digits_push (x ∷ ds) d all is = (all.0, digits_push ds d all.1 is)

-- the decimal of a number
pub record Spells (n : ℕ) (ds : List ℕ) : Type 0 where
  pub some : 0 < length ds
  pub digits : AllByRecursion IsDigit ds
  pub value : value_from 0 ds ≡ n

pub decimal_spells : (n : ℕ) → n < 2 ^ 64 → Spells n (decimal n)
decimal_spells n lt = decimal_by_steps Spells
    (λ n lt. record { some = omega arith; digits = ((omega arith, omega arith), tt); value = omega arith })
    (λ n ds le h. record { some = omega (arith, length-append ds ((48 + n % 10) ∷ [])); digits = digits_push ds (48 + n % 10) h.digits (omega arith, omega arith); value = value_push 0 ds (48 + n % 10) ∙ omega (arith, h.value) })
    n lt

pub is_of_digit : (b : ℕ) → IsDigit b → is_digit b ≡ true
is_of_digit b h = let a : _ ≡ true = le-leb _ _ h.0 in let c : _ ≡ true = le-leb _ _ h.1 in rw (a, c) refl

digits_all : (ds : List ℕ) → AllByRecursion IsDigit ds → are_digits ds ≡ true
digits_all [] all = refl
digits_all (d ∷ ds) all = let t = is_of_digit d all.0 in rw t (digits_all ds all.1)

-- a number as it is written
pub number_spelled : (n : ℕ) → n < 4294967296 → SpellsNumber (decimal n) n
number_spelled n lt = let s = decimal_spells n (omega (arith, lt)) in record { some = s.some; digits = s.digits; value = omega (arith, s.value) }

pub number_made : (text : List ℕ) (at n : ℕ) → SpellsNumber text n → number_of text at ≡ Some (n, at + length text)
number_made [] at n s = absurd (omega (arith, s.some))
number_made (d ∷ ds) at n s = ap (λ (v : ℕ). Some (v, at + length (d ∷ ds))) (sym s.value)

-- digits that nothing follows are all read
pub digits_whole : (ds : List ℕ) → AllByRecursion IsDigit ds → digits ds ≡ ds
digits_whole [] all = refl
digits_whole (d ∷ ds) all = let t = is_of_digit d all.0 in let h = digits_whole ds all.1 in rw (t, h) refl

pub none_is : (b : ℕ) (ds : List ℕ) → b < 48 → AllByRecursion IsDigit ds → AllByRecursion (λ d. d ≢ b) ds
none_is b [] lt all = tt
none_is b (d ∷ ds) lt all = ((λ e. let low = all.0.0 in omega arith), none_is b ds lt all.1)

and_false : (a : Bool) → (a && false) ≡ false
and_false true = refl
and_false false = refl

-- a word that spells a number, and doesn't begin with 0
pub record Word (n : ℕ) (ds : List ℕ) : Type 0 where
  pub spells : Spells n ds
  pub first : get_or ds 0 0 ≢ 48

pub word_of : (n : ℕ) → 0 < n → n < 2 ^ 64 → Word n (decimal n)
word_of n some lt = record { spells = decimal_spells n lt; first = λ e. let f = first_decimal n some lt in omega arith }

pub number_read : (limit n : ℕ) (ds : List ℕ) → Word n ds → n ≤ limit → number_word limit ds ≡ Some n
number_read limit n [] w le = absurd (omega (arith, w.spells.some))
number_read limit n (d ∷ ds) w le =
    let t = ne_eqb d 48 w.first in
    let a = digits_all (d ∷ ds) w.spells.digits in
    let v = w.spells.value in
    let l : leb n limit ≡ true = le-leb n limit le in
    rw (t, a, v, l) refl

pub not_zero : (n : ℕ) (ds : List ℕ) → Word n ds → is_byte 48 ds ≡ false
not_zero n [] w = refl
not_zero n (d ∷ ds) w = let t = ne_eqb d 48 w.first in rw t (and_false _)
