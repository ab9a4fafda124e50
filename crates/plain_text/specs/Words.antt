-- Words that are numbers without leading zeros.
use Rattle.std.specs.Prelude.{ℕ, ◌==◌, ◌&&◌, leb, Bool, true, false, if◌then◌else◌, List, [], ◌∷◌, Option, Some, None}
use Rattle.plain_text.specs.Numbers.{is_digit, value_from}

abbrev pub are_digits : List ℕ → Bool
are_digits [] = true
are_digits (d ∷ ds) = if is_digit d then are_digits ds else false

-- one or more digits, the first of which isn't 0
abbrev pub is_plain : List ℕ → Bool
is_plain [] = false
is_plain (d ∷ ds) = if d == 48 then false else are_digits (d ∷ ds)

-- a number from 1 to a limit
abbrev pub number_word : ℕ → List ℕ → Option ℕ
number_word limit word = if is_plain word && leb (value_from 0 word) limit then Some (value_from 0 word) else None
