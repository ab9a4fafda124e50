-- A log line from its words, and its text: the literals, `0`, the hints, `0`, with one space between two of them. (LRAT without a
-- line's own number: Cruz-Filipe, Heule and others, CADE 2017.)
use Rattle.std.specs.Prelude.{◌≡◌, ◌<◌, ◌^◌, ℕ, ℤ, Bool, true, false, if◌then◌else◌, List, [], ◌∷◌, ◌++◌, Option, Some, None, decimal}
use Rattle.std.specs.Fmt.{signed_decimal}
use Rattle.std.specs.List.{All}
use Rattle.sat_log.specs.Derivations.{Line}
use Rattle.plain_text.specs.Pieces.{pieces, last_of, is_byte}
use Rattle.plain_text.specs.Words.{number_word}
use Rattle.sat_log.specs.Words.{literal_word}

abbrev pub and_hint : Option ℕ → (ℕ → Option Line) → Option Line
and_hint None more = None
and_hint (Some h) more = more h

abbrev pub and_literal : Option ℤ → (ℤ → Option Line) → Option Line
and_literal None more = None
and_literal (Some l) more = more l

-- the hints from 1 to 2^64 - 1, up to the last word, which is `0`
unfoldable pub hints_from : List ℤ → List ℕ → List (List ℕ) → List ℕ → Option Line
hints_from literals front [] last = if is_byte 48 last then Some (record { literals = literals; hints = front }) else None
hints_from literals front (w ∷ ws) last = and_hint (number_word 18446744073709551615 w) (λ h. hints_from literals (front ++ h ∷ []) ws last)

-- the literals up to the word `0`, then the hints
unfoldable pub step_from : List ℤ → List (List ℕ) → List ℕ → Option Line
step_from front [] last = None
step_from front (w ∷ ws) last =
    if is_byte 48 w then hints_from front [] ws last else
    and_literal (literal_word w) (λ l. step_from (front ++ l ∷ []) ws last)

-- the clause and the hints that a line of text is
abbrev pub step_of : List ℕ → Option Line
step_of text = step_from [] (pieces 32 text) (last_of 32 text)

abbrev pub Parses : Bool → List ℤ → List ℕ → Option Line → Type 0
Parses true literals hints due = due ≡ Some (record { literals = literals; hints = hints })
Parses false literals hints due = due ≡ None

-- hints below 2^64: each vector of 64-bit words has these
abbrev pub HasText : Line → Type 0
HasText line = All (λ h. h < 2 ^ 64) line.hints

abbrev pub literals_text : List ℤ → List ℕ
literals_text [] = []
literals_text (l ∷ ls) = signed_decimal l ++ 32 ∷ literals_text ls

abbrev pub hints_text : List ℕ → List ℕ
hints_text [] = []
hints_text (h ∷ hs) = decimal h ++ 32 ∷ hints_text hs

-- without its LF
abbrev pub step_text : List ℤ → List ℕ → List ℕ
step_text literals hints = literals_text literals ++ 48 ∷ 32 ∷ (hints_text hints ++ 48 ∷ [])

unfoldable pub log_text : List Line → List ℕ
log_text [] = []
log_text (line ∷ lines) = step_text line.literals line.hints ++ 10 ∷ log_text lines
