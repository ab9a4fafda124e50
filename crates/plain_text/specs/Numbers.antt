-- Decimal numbers of a text.
use Rattle.std.specs.Prelude.{◌≡◌, ℕ, ◌+◌, ◌-◌, ◌*◌, ◌<◌, ◌≤◌, min, leb, Bool, ◌&&◌, if◌then◌else◌, List, [], ◌∷◌, length, drop, Option, Some, None}
use Rattle.std.specs.List.{AllByRecursion}

abbrev pub IsDigit : ℕ → Type 0
IsDigit b = (48 ≤ b) × (b ≤ 57)

abbrev pub is_digit : ℕ → Bool
is_digit b = leb 48 b && leb b 57

-- the digits at the front
abbrev pub digits : List ℕ → List ℕ
digits [] = []
digits (b ∷ bs) = if is_digit b then b ∷ digits bs else []

-- the value of digits after those that stand for n
abbrev pub value_from : ℕ → List ℕ → ℕ
value_from n [] = n
value_from n (d ∷ ds) = value_from (10 * n + (d - 48)) ds

abbrev pub capped : ℕ → ℕ
capped n = min n 4294967295

-- a number and the place after it
abbrev pub number_of : List ℕ → ℕ → Option (ℕ × ℕ)
number_of [] at = None
number_of (d ∷ ds) at = Some (capped (value_from 0 (d ∷ ds)), at + length (d ∷ ds))

unfoldable pub number_at : List ℕ → ℕ → Option (ℕ × ℕ)
number_at bytes at = number_of (digits (drop at bytes)) at

-- one or more decimal digits; a value past 4294967295 counts as 4294967295
pub record SpellsNumber (text : List ℕ) (n : ℕ) : Type 0 where
  pub some : 0 < length text
  pub digits : AllByRecursion IsDigit text
  pub value : n ≡ capped (value_from 0 text)
