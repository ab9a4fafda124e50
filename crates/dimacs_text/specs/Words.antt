-- The words of a line between spaces, and the header that a line is: `p cnf VARIABLES CLAUSES`.
use Rattle.std.specs.Prelude.{ℕ, ◌==◌, ◌&&◌, ◌||◌, Bool, if◌then◌else◌, List, [], ◌∷◌, ◌++◌, Option, Some, None, length, slice_index}
use Rattle.plain_text.specs.Pieces.{pieces, last_of, is_byte}
use Rattle.plain_text.specs.Numbers.{is_digit}
use Rattle.plain_text.specs.Words.{number_word}
use Rattle.dimacs_text.specs.declared.header.Header.{Header}

abbrev pub nonempty : List (List ℕ) → List (List ℕ)
nonempty [] = []
nonempty (w ∷ ws) = if length w == 0 then nonempty ws else w ∷ nonempty ws

-- spaces may stand before, between and after them
unfoldable pub words : List ℕ → List (List ℕ)
words line = nonempty (pieces 32 line ++ last_of 32 line ∷ [])

-- `c` begins it
abbrev pub is_comment : List ℕ → Bool
is_comment line = slice_index line 0 == 99

-- the word `cnf`
abbrev pub is_cnf : List ℕ → Bool
is_cnf word = (length word == 3) && (slice_index word 0 == 99) && (slice_index word 1 == 110) && (slice_index word 2 == 102)

-- a number from 0 to a limit, without leading zeros
abbrev pub count_word : ℕ → List ℕ → Option ℕ
count_word limit word = if is_byte 48 word then Some 0 else number_word limit word

abbrev pub header_with : Option ℕ → Option ℕ → Option Header
header_with (Some vars) (Some clauses) = Some (record { vars = vars; clauses = clauses })
header_with (Some vars) None = None
header_with None clauses = None

abbrev pub header_words : List (List ℕ) → Option Header
header_words [] = None
header_words (p ∷ []) = None
header_words (p ∷ c ∷ []) = None
header_words (p ∷ c ∷ v ∷ []) = None
header_words (p ∷ c ∷ v ∷ n ∷ []) =
    if is_byte 112 p && is_cnf c then header_with (count_word 2147483647 v) (count_word 18446744073709551615 n) else None
header_words (p ∷ c ∷ v ∷ n ∷ w ∷ ws) = None

abbrev pub header_of : List ℕ → Option Header
header_of line = header_words (words line)

-- a digit or `-`
abbrev pub is_of_number : ℕ → Bool
is_of_number b = is_digit b || (b == 45)
