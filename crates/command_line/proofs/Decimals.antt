-- A number of plain words is one for clap too, and the same.
use Rattle.std.proofs.Common.{◌≡◌, ◌<◌, ◌≤◌, ◌^◌, ◌==◌, ℕ, true, false, List, [], ◌∷◌, length, Some, nat_lt, leb, lt-ltb, le-ltb, leb-true, ne_eqb, ap, refl, arith}
use Rattle.std.specs.List.{list_all}
use Rattle.std.specs.Char.{digit_value}
use Rattle.std.specs.Str.Parse.{digits_value, without_leading_plus}
use Rattle.clap.specs.ValueTests.{is_unsigned_in}
use Rattle.clap.proofs.WalkLemmas.{both}
use Rattle.command_line.specs.Meant.{number_in}
use Rattle.command_line.specs.App.{Number}
use Rattle.command_line.specs.Plain.{is_decimal, is_digit, is_value}

digit_low : (d : ℕ) → is_digit d ≡ true → nat_lt (digit_value d) 10 ≡ true
digit_low d e =
    let q = both (leb 48 d) (leb d 57) e in
    let low : 48 ≤ d = leb-true 48 d q.0 in
    let high : d ≤ 57 = leb-true d 57 q.1 in
    let over : nat_lt d 48 ≡ false = le-ltb d 48 low in
    let under : nat_lt d 58 ≡ true = lt-ltb d 58 (omega (arith, high)) in
    rw (over, under) (lt-ltb _ 10 (omega (arith, low, high)))

digits_low : (ds : List ℕ) → list_all is_digit ds ≡ true → list_all (λ d. nat_lt (digit_value d) 10) ds ≡ true
digits_low [] e = refl
digits_low (d ∷ ds) e =
    let q = both (is_digit d) (list_all is_digit ds) e in
    let one = digit_low d q.0 in
    rw one (digits_low ds q.1)

no_plus : (x : ℕ) (xs : List ℕ) → is_digit x ≡ true → without_leading_plus (x ∷ xs) ≡ x ∷ xs
no_plus x xs e =
    let low : 48 ≤ x = leb-true 48 x (both (leb 48 x) (leb x 57) e).0 in
    let other : (x == 43) ≡ false = ne_eqb x 43 (λ same. omega (arith, low, same)) in
    rw other refl

-- clap takes the number
pub number_passes : (least most : ℕ) (t : List ℕ) → most < 2 ^ 64 → is_value (Number least most) t ≡ true → is_unsigned_in least most t ≡ true
number_passes least most [] fits e = cc
number_passes least most (x ∷ xs) fits e =
    let q = both (is_decimal (x ∷ xs)) _ e in
    let limits = both (leb least (digits_value 10 (x ∷ xs))) (leb (digits_value 10 (x ∷ xs)) most) q.1 in
    let all = (both _ (list_all is_digit (x ∷ xs)) q.0).1 in
    let plus = no_plus x xs (both (is_digit x) (list_all is_digit xs) all).0 in
    let some : nat_lt 0 (length (x ∷ xs)) ≡ true = lt-ltb 0 (length (x ∷ xs)) (omega arith) in
    let digits = digits_low (x ∷ xs) all in
    let high : digits_value 10 (x ∷ xs) ≤ most = leb-true _ most limits.1 in
    let small : nat_lt (digits_value 10 (x ∷ xs)) (2 ^ 64) ≡ true = lt-ltb _ (2 ^ 64) (omega (arith, high, fits)) in
    rw (plus, some, digits, small, limits.0, limits.1) refl

-- and reads it so
pub number_is : (least most : ℕ) (t : List ℕ) → most < 2 ^ 64 → is_value (Number least most) t ≡ true → number_in least most (Some t) ≡ Some (digits_value 10 t)
number_is least most [] fits e = cc
number_is least most (x ∷ xs) fits e =
    let q = both (is_decimal (x ∷ xs)) _ e in
    let all = (both _ (list_all is_digit (x ∷ xs)) q.0).1 in
    let plus = no_plus x xs (both (is_digit x) (list_all is_digit xs) all).0 in
    let passes = number_passes least most (x ∷ xs) fits e in
    rw passes (ap (λ (u : List ℕ). Some (digits_value 10 u)) plus)
